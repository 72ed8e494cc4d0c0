use Rattle.std.proofs.Common.{◌≡◌, []}
use Rattle.vx_chunk_plans.specs.Deals.{dealt}
use Rattle.vx_chunk_plans.proofs.take.empty.Given as goal

abbrev pub invariant-loop : goal.invariant-loop
invariant-loop l = l.buckets.items ≡ dealt 0 l.counter []
