use Rattle.std.proofs.Common.{◌≡◌, ◌+◌, ◌-◌, ◌≤◌, length}
use Rattle.vx_lanes.specs.Layouts.{lane_start, overlaid_below, covered}
use Rattle.vx_lanes.proofs.lanes.Lanes.overlay.Given as goal

abbrev pub invariant-loop-entry : goal.invariant-loop-entry
invariant-loop-entry g l = record {
  from : l.from ≡ lane_start l.self l.entry;
  len : length l.rows ≡ length l.fn.rows;
  rows : l.rows ≡ overlaid_below l.self l.from l.fn.rows;
  past : lane_start l.self 0 ≤ l.from;
  rise : l.steps ≤ l.fn.steps + 1 + l.entry + (l.from - lane_start l.self 0) + covered l.self l.from (length l.fn.rows);
  monotone : l.fn.steps ≤ l.steps;
}
