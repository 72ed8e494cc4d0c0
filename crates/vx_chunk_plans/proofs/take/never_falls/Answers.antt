use Rattle.std.proofs.Common.{arith, ◌∙◌, sym}
use Rattle.vx_chunk_plans.proofs.Taking.{goes_up, goes_down}
use Rattle.vx_chunk_plans.proofs.take.never_falls.Goals as goal

pub returns-in_default : goal.returns-in_default
returns-in_default c = sym (c.loop-at.invariant ∙ goes_down c.args.indices.now c.loop-at.at-index c.loop-at.last (omega arith) c.in_default.ensures)

pub loop-at-preserved : goal.loop-at-preserved
loop-at-preserved c = c.loop-at.invariant ∙ goes_up c.args.indices.now c.loop-at.at-index c.loop-at.last c.in-Some.next (omega arith) c.in-Some.ensures
