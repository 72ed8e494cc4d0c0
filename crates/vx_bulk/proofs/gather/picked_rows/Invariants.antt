use Rattle.std.proofs.Common.{◌≡◌, ◌+◌, take}
use Rattle.vx_bulk.specs.Selections.{picked_at}
use Rattle.vx_bulk.proofs.gather.picked_rows.Given as goal

abbrev pub invariant-loop-place : goal.invariant-loop-place
invariant-loop-place g l = record {
  rows : l.rows ≡ picked_at l.column.rows (take l.place-index l.places);
  cost : l.steps ≡ l.fn.steps + l.place-index;
}
