use Rattle.std.proofs.Common.{arith, ap, length}
use Rattle.vx_patches.specs.Places.{Index, indices_of}
use Rattle.vx_patches.specs.Views.{index_of}
use Rattle.vx_patches.proofs.Counts.{above_first}
use Rattle.vx_patches.proofs.index.PatchIndex.index_at.Goals as goal

pub returns-clause-above : goal.returns-clause-above
returns-clause-above g c =
    let i = index_of c.self.inside in
    let s = c.self.invariant in
    omega (
      arith,
      c.number_at.ensures.value,
      ap (λ (n : Index). n.offset) c.self.view_is,
      above_first i.offset (indices_of i) s.rising s.above c.args.place (omega (arith, c.requires, ap (λ (n : Index). length (indices_of n)) c.self.view_is)),
    )
