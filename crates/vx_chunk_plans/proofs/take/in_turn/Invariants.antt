use Rattle.std.proofs.Common.{◌≡◌, drop}
use Rattle.vx_chunk_plans.specs.Deals.{in_turn, present}
use Rattle.vx_chunk_plans.proofs.take.in_turn.Given as goal

abbrev pub invariant-loop-spot : goal.invariant-loop-spot
invariant-loop-spot l = in_turn 0 (present l.spots) ≡ in_turn l.last (present (drop l.spot-index l.spots))
