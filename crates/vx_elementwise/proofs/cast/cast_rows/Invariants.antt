use Rattle.std.proofs.Common.{◌≡◌, ◌+◌, ◌-◌, ◌≤◌, length, take, IsTrue}
use Rattle.vx_rows.specs.Fits.{rows_fit}
use Rattle.vx_elementwise.proofs.cast.cast_rows.Given as goal

abbrev pub invariant-loop-start : goal.invariant-loop-start
invariant-loop-start g l = record {
  inside : l.start ≤ length l.column.rows;
  rows : l.rows ≡ take l.start l.column.rows;
  fits : IsTrue (rows_fit l.dtype (take l.start l.column.rows));
  cost : l.steps ≡ l.fn.steps + l.start;
}

abbrev pub decreases-loop-start : goal.decreases-loop-start
decreases-loop-start g l = length l.column.rows - l.start
