use Rattle.std.proofs.Common.{◌≡◌, ◌+◌, ◌≤◌, ◌++◌, take}
use Rattle.std.specs.List.{slice_range}
use Rattle.vx_bulk.specs.Selections.{masked}
use Rattle.vx_bulk.proofs.gather.masked_rows.Given as goal

-- the rows so far, and those of a run that are still to be appended
abbrev pub invariant-loop-i : goal.invariant-loop-i
invariant-loop-i g l = record {
  order : l.start ≤ l.i;
  rows : l.rows ++ slice_range l.column.rows l.start l.i ≡ masked (take l.i l.column.rows) (take l.i l.keep);
  cost : l.steps ≡ l.fn.steps + l.start;
}
