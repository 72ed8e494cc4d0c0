use Rattle.std.proofs.Common.{◌≡◌, ◌+◌, ◌-◌, ◌≤◌, length, take}
use Rattle.vx_buffers.specs.Stores.{bool_rows}
use Rattle.vx_scalars.specs.Elementwise.{compared}
use Rattle.vx_elementwise.proofs.compare.compared_rows.Given as goal

abbrev pub invariant-loop-start : goal.invariant-loop-start
invariant-loop-start g l = record {
  inside : l.start ≤ length l.column.rows;
  rows : bool_rows l.truths ≡ compared l.op l.value (take l.start l.column.rows);
  cost : l.steps ≡ l.fn.steps + l.start;
}

abbrev pub decreases-loop-start : goal.decreases-loop-start
decreases-loop-start g l = length l.column.rows - l.start
