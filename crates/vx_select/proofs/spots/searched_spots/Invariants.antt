use Rattle.std.proofs.Common.{◌+◌, ◌*◌, ◌≤◌, take, map, length}
use Rattle.vx_search.specs.Places.{search_bound}
use Rattle.vx_column.specs.Columns.{rows_of, chunks_of}
use Rattle.vx_column.specs.declared.column.Column.TheVariants as column
use Rattle.vx_select.specs.Spots.{AreSpotsOf}
use Rattle.vx_select.proofs.spots.searched_spots.Given as goal

abbrev pub invariant-loop-place : goal.invariant-loop-place
invariant-loop-place g l = record {
  spots : AreSpotsOf (map rows_of (chunks_of l.array)) (rows_of (column.Chunked l.array)) (take l.place-index l.places) l.spots.items;
  rise : l.steps ≤ l.initial.steps + l.place-index * search_bound (length (chunks_of l.array) + 1);
  monotone : l.initial.steps ≤ l.steps;
}
