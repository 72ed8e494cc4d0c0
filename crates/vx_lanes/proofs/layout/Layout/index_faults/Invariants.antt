use Rattle.std.proofs.Common.{◌≡◌, ◌+◌, ◌-◌, ◌%◌, ◌≤◌}
use Rattle.vx_lanes.specs.Layouts.{lane_start, entries}
use Rattle.vx_lanes.specs.Rules.{any_between, any_entry, over_range, off_lane, off_order}
use Rattle.vx_lanes.proofs.layout.Layout.index_faults.Given as goal

abbrev pub invariant-loop-entry : goal.invariant-loop-entry
invariant-loop-entry g l = record {
  from : l.from ≡ lane_start l.self l.entry;
  past : lane_start l.self 0 ≤ l.from;
  range : l.faults.range ≡ any_between (over_range l.self) (lane_start l.self 0) (lane_start l.self l.entry);
  lane : l.faults.lane ≡ any_entry l.self (λ h. off_lane l.self (h % l.self.n_lanes)) l.entry;
  order : l.faults.order ≡ any_entry l.self (λ h. off_order l.self (lane_start l.self h)) l.entry;
  rise : l.steps ≤ l.fn.steps + 1 + l.entry + (l.from - lane_start l.self 0);
  most : l.steps ≤ l.fn.steps + entries l.self + (l.from - lane_start l.self 0);
  monotone : l.fn.steps ≤ l.steps;
}
