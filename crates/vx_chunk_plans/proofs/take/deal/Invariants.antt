use Rattle.std.proofs.Common.{◌≡◌, take}
use Rattle.vx_chunk_plans.specs.Deals.{dealt, present}
use Rattle.vx_chunk_plans.proofs.take.deal.Given as goal

abbrev pub invariant-loop-spot : goal.invariant-loop-spot
invariant-loop-spot l = l.buckets.items ≡ dealt 0 l.count (present (take l.spot-index l.spots))
