use Rattle.std.proofs.Common.{◌≡◌, ℕ, ◌+◌, ◌-◌, ◌<◌, ◌≤◌}
use Rattle.std.specs.BTreeMap as tree
use Rattle.std.specs.Ordering.{nat_cmp}
use Rattle.vx_lanes.specs.Layouts.{exception_below, lane_start}
use Rattle.vx_lane_select.proofs.taken.exceptions_by_place.Given as goal

abbrev pub invariant-loop-lane : goal.invariant-loop-lane
invariant-loop-lane g l = record {
  from : l.from ≡ lane_start l.lanes l.lane;
  places : (row : ℕ) → row < l.lanes.len → tree.get nat_cmp l.by_place (l.lanes.offset + row) ≡ exception_below l.lanes l.from row;
  past : lane_start l.lanes 0 ≤ l.from;
  rise : l.steps ≤ l.fn.steps + 1 + l.lane + (l.from - lane_start l.lanes 0);
  monotone : l.fn.steps ≤ l.steps;
}
