use Rattle.std.proofs.Common.{◌≡◌, ℕ, ◌+◌, ◌-◌, ◌<◌, ◌≤◌}
use Rattle.std.specs.BTreeMap as tree
use Rattle.std.specs.Ordering.{nat_cmp}
use Rattle.vx_lanes.specs.Layouts.{exception_below}
use Rattle.vx_lane_select.proofs.taken.add_lane.Given as goal

abbrev pub invariant-loop-exception : goal.invariant-loop-exception
invariant-loop-exception g l = record {
  places : ((row : ℕ) → row < l.lanes.len → tree.get nat_cmp l.fn.by_place (l.lanes.offset + row) ≡ exception_below l.lanes l.from row) →
      (row : ℕ) → row < l.lanes.len → tree.get nat_cmp l.by_place (l.lanes.offset + row) ≡ exception_below l.lanes l.exception row;
  past : l.from ≤ l.exception;
  within : l.exception ≤ l.to;
  rise : l.steps ≤ l.fn.steps + (l.exception - l.from);
  monotone : l.fn.steps ≤ l.steps;
}
