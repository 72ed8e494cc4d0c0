use Rattle.std.proofs.Common.{◌≡◌, true, take, drop}
use Rattle.std.specs.List.{AllZip}
use Rattle.vx_chunks.specs.Bounds.{total}
use Rattle.vx_chunk_plans.specs.Takes.{IsSpotOf, never_falls}
use Rattle.vx_chunk_plans.proofs.take.walked.Given as goal

abbrev pub invariant-loop-at : goal.invariant-loop-at
invariant-loop-at l = record {
  spots : AllZip (IsSpotOf l.boundaries) (take l.at-index l.indices) l.spots.items;
  rest : never_falls (total (take l.chunk l.boundaries)) (drop l.at-index l.indices) ≡ true;
}
