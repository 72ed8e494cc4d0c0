use Rattle.std.proofs.Common.{arith, sym, ◌∙◌}
use Rattle.vx_base.proofs.CheckLemmas.{length_numbers}
use Rattle.vx_patches.specs.Views.{index_of}
use Rattle.vx_patches.proofs.Slices.{place_of_end}
use Rattle.vx_patches.proofs.index.PatchIndex.back.Goals as goal

pub returns-then-end-self-clause-place : goal.returns-then-end-self-clause-place
returns-then-end-self-clause-place g c =
    rw (← c.self.view_is) (place_of_end (index_of c.self.inside) c.self.invariant c.args.end c.len.result (omega (arith, c.if-end-self.true)) (c.len.ensures ∙ sym (length_numbers c.self.inside.indices.rows)))
