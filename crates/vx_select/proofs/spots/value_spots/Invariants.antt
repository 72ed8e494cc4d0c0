use Rattle.std.proofs.Common.{◌+◌, ◌*◌, ◌≤◌, take, map}
use Rattle.vx_column.specs.Columns.{rows_of, interleaved_of}
use Rattle.vx_column.specs.declared.column.Column.TheVariants as column
use Rattle.vx_select.specs.Spots.{AreSpotsOf}
use Rattle.vx_select.proofs.spots.value_spots.Given as goal

abbrev pub invariant-loop-place : goal.invariant-loop-place
invariant-loop-place g l = record {
  spots : AreSpotsOf (map rows_of (interleaved_of l.array)) (rows_of (column.Interleave l.array)) (take l.place-index l.places) l.spots.items;
  rise : l.steps ≤ l.initial.steps + l.place-index * 2;
  monotone : l.initial.steps ≤ l.steps;
}
