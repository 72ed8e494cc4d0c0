use Rattle.std.proofs.Common.{◌≡◌, ◌+◌, take}
use Rattle.std.specs.Prelude.{is_some, count_by}
use Rattle.vx_bulk.specs.Selections.{picked}
use Rattle.vx_bulk.proofs.gather.taken_rows.Given as goal

abbrev pub invariant-loop-place : goal.invariant-loop-place
invariant-loop-place g l = record {
  rows : l.rows ≡ picked l.column.rows (take l.place-index l.places);
  cost : l.steps ≡ l.fn.steps + count_by is_some (take l.place-index l.places);
}
