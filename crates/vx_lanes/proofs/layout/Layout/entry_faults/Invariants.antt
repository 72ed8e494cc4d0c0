use Rattle.std.proofs.Common.{◌≡◌, ◌+◌, ◌-◌, ◌<◌, ◌≤◌, ◌||◌}
use Rattle.vx_lanes.specs.Layouts.{index_of}
use Rattle.vx_lanes.specs.Rules.{any_between, over_range, off_lane, off_order}
use Rattle.vx_lanes.proofs.layout.Layout.entry_faults.Given as goal

abbrev pub invariant-loop-exception : goal.invariant-loop-exception
invariant-loop-exception g l = record {
  from : l.from ≤ l.exception;
  range : l.faults.range ≡ (l.fn.before.range || any_between (over_range l.self) l.from l.exception);
  lane : l.faults.lane ≡ (l.fn.before.lane || any_between (off_lane l.self l.lane) l.from l.exception);
  order : l.faults.order ≡ (l.fn.before.order || any_between (off_order l.self l.from) l.from l.exception);
  last : l.from < l.exception → l.faults.last ≡ index_of l.self (l.exception - 1);
  cost : l.steps ≡ l.initial.steps + (l.exception - l.from);
}
