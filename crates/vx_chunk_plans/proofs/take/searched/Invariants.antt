use Rattle.std.proofs.Common.{◌≤◌, ◌+◌, ◌*◌, take, length}
use Rattle.std.specs.Prelude.{count_by, is_some}
use Rattle.std.specs.List.{AllZip}
use Rattle.vx_search.specs.Places.{search_bound}
use Rattle.vx_chunk_plans.specs.Takes.{IsSpotOf}
use Rattle.vx_chunk_plans.proofs.take.searched.Given as goal

abbrev pub invariant-loop-at : goal.invariant-loop-at
invariant-loop-at g l = record {
  spots : AllZip (IsSpotOf l.boundaries) (take l.at-index l.indices) l.spots.items;
  cost : l.steps ≤ l.fn.steps + count_by is_some (take l.at-index l.indices) * search_bound (length l.boundaries + 1);
  rise : l.fn.steps ≤ l.steps;
}
