use Rattle.std.proofs.Common.{◌+◌, ◌*◌, ◌≤◌, ◌∷◌, [], take}
use Rattle.vx_patches.specs.Search.{search_cost}
use Rattle.vx_column.specs.Columns.{rows_of, base_of, values_of, index_of}
use Rattle.vx_column.specs.declared.column.Column.TheVariants as column
use Rattle.vx_select.specs.Spots.{AreSpotsOf}
use Rattle.vx_select.proofs.spots.exception_spots.Given as goal

abbrev pub invariant-loop-place : goal.invariant-loop-place
invariant-loop-place g l = record {
  spots : AreSpotsOf (rows_of (base_of l.array) ∷ rows_of (values_of l.array) ∷ []) (rows_of (column.Excepted l.array)) (take l.place-index l.places) l.spots.items;
  rise : l.steps ≤ l.initial.steps + l.place-index * search_cost (index_of l.array);
  monotone : l.initial.steps ≤ l.steps;
}
