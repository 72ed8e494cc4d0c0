use Rattle.std.proofs.Common.{arith, ◌∙◌, ◌≡◌, ap, sym, get_or, None, Some}
use Rattle.vx_chunk_plans.specs.Takes.{step_up}
use Rattle.vx_chunk_plans.proofs.Taking.{turns_up, turns_down}
use Rattle.vx_chunk_plans.proofs.take.in_turn.Goals as goal

pub returns-in_default : goal.returns-in_default
returns-in_default c =
    sym (c.loop-spot.invariant ∙ turns_down c.args.spots.now c.loop-spot.spot-index c.loop-spot.last (omega arith) (c.in_default.ensures ∙ ap (step_up c.loop-spot.last) c.chunk_of.ensures))

pub loop-spot-preserved : goal.loop-spot-preserved
loop-spot-preserved c =
    c.loop-spot.invariant ∙ turns_up c.args.spots.now c.loop-spot.spot-index c.loop-spot.last c.in-Some.next (omega arith) (c.in-Some.ensures ∙ ap (step_up c.loop-spot.last) c.chunk_of.ensures)
