use Rattle.std.proofs.Common.{◌≡◌, []}
use Rattle.vx_chunk_plans.specs.Deals.{dealt}
use Rattle.vx_chunk_plans.proofs.runs.empty.Given as goal

abbrev pub invariant-loop : goal.invariant-loop
invariant-loop l = l.pieces.items ≡ dealt 0 l.counter []
