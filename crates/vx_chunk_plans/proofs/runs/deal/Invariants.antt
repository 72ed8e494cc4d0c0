use Rattle.std.proofs.Common.{◌≡◌, take}
use Rattle.vx_chunk_plans.specs.Deals.{dealt}
use Rattle.vx_chunk_plans.proofs.runs.deal.Given as goal

abbrev pub invariant-loop-chunk : goal.invariant-loop-chunk
invariant-loop-chunk l = l.pieces.items ≡ dealt 0 l.count (take l.chunk-index l.parts)
