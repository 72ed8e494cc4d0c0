use Rattle.std.proofs.Common.{◌≡◌, ◌+◌, ◌-◌, ◌≤◌, List, Option, length}
use Rattle.vx_rows.specs.declared.value.Value.{Value}
use Rattle.vx_lane_select.specs.Selected.{AreUnder, covered_at}
use Rattle.vx_lane_select.proofs.kept.lay_lane.Given as goal

abbrev pub invariant-loop-exception : goal.invariant-loop-exception
invariant-loop-exception g l = record {
  len : length l.rows ≡ length l.fn.rows;
  rows : (bare : List (Option Value)) → AreUnder l.lanes l.from l.kept bare l.fn.rows → AreUnder l.lanes l.exception l.kept bare l.rows;
  past : l.from ≤ l.exception;
  within : l.exception ≤ l.to;
  rise : l.steps + covered_at l.lanes l.from l.kept ≤ l.fn.steps + (l.exception - l.from) + covered_at l.lanes l.exception l.kept;
  monotone : l.fn.steps ≤ l.steps;
}
