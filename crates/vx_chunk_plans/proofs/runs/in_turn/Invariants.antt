use Rattle.std.proofs.Common.{◌≡◌, drop}
use Rattle.vx_chunk_plans.specs.Deals.{in_turn}
use Rattle.vx_chunk_plans.proofs.runs.in_turn.Given as goal

abbrev pub invariant-loop-chunk : goal.invariant-loop-chunk
invariant-loop-chunk l = in_turn 0 l.parts ≡ in_turn l.last (drop l.chunk-index l.parts)
