use Rattle.std.proofs.Common.{◌≡◌, ◌+◌, ◌-◌, ◌≤◌, length}
use Rattle.vx_lanes.specs.Layouts.{lane_start, covered}
use Rattle.vx_lane_compare.specs.Bits.{AreUnder}
use Rattle.vx_lane_compare.proofs.over.compare.Given as goal

abbrev pub invariant-loop-lane : goal.invariant-loop-lane
invariant-loop-lane g l = record {
  from : l.from ≡ lane_start l.lanes l.lane;
  len : length l.bits ≡ length l.fn.bits;
  under : AreUnder l.lanes l.op l.value l.from l.fn.bits l.bits;
  past : lane_start l.lanes 0 ≤ l.from;
  rise : l.steps ≤ l.fn.steps + 1 + l.lane + (l.from - lane_start l.lanes 0) + covered l.lanes l.from (length l.fn.bits);
  monotone : l.fn.steps ≤ l.steps;
}
