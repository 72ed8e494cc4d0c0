use Rattle.std.proofs.Common.{◌≡◌, ◌+◌, ◌-◌, ◌≤◌, length}
use Rattle.vx_lanes.specs.Layouts.{lane_start}
use Rattle.vx_lane_select.specs.Selected.{AreUnder, covered_at}
use Rattle.vx_lane_select.proofs.kept.overlay.Given as goal

abbrev pub invariant-loop-lane : goal.invariant-loop-lane
invariant-loop-lane g l = record {
  from : l.from ≡ lane_start l.lanes l.lane;
  len : length l.rows ≡ length l.fn.rows;
  under : AreUnder l.lanes l.from l.kept l.fn.rows l.rows;
  past : lane_start l.lanes 0 ≤ l.from;
  rise : l.steps ≤ l.fn.steps + 1 + l.lane + (l.from - lane_start l.lanes 0) + covered_at l.lanes l.from l.kept;
  monotone : l.fn.steps ≤ l.steps;
}
