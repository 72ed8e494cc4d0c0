use Rattle.std.proofs.Common.{arith, ap, length, ◌+◌}
use Rattle.vx_base.specs.Numbers.{numbers_of}
use Rattle.vx_patches.specs.Places.{Index, indices_of}
use Rattle.vx_patches.proofs.Counts.{above_first, below_last}
use Rattle.vx_patch_select.proofs.rows.PatchRows.at.Goals as goal

pub overflow_sub-result : goal.overflow_sub-result
overflow_sub-result g c =
    let s = c.self.invariant in
    omega (
      arith,
      c.number_at.ensures.value,
      above_first c.self.inside.offset (numbers_of c.self.inside.indices.now.rows) s.rising s.above c.args.place
          (omega (arith, c.requires, ap (λ (n : Index). length (indices_of n)) c.self.view_is)),
    )

pub returns-clause-inside : goal.returns-clause-inside
returns-clause-inside g c =
    let s = c.self.invariant in
    omega (
      arith,
      c.number_at.ensures.value,
      ap (λ (n : Index). n.len) c.self.view_is,
      above_first c.self.inside.offset (numbers_of c.self.inside.indices.now.rows) s.rising s.above c.args.place
          (omega (arith, c.requires, ap (λ (n : Index). length (indices_of n)) c.self.view_is)),
      below_last (c.self.inside.offset + c.self.inside.row_count) (numbers_of c.self.inside.indices.now.rows) s.rising s.below c.args.place
          (omega (arith, c.requires, ap (λ (n : Index). length (indices_of n)) c.self.view_is)),
    )
