use Rattle.std.proofs.Common.{◌≡◌, ℕ, ◌+◌, ◌-◌, ◌%◌, ◌<◌, ◌≤◌}
use Rattle.vx_lanes.specs.Layouts.{index_of, lane_start}
use Rattle.vx_lanes.proofs.Exceptions.{entry_at}
use Rattle.vx_lanes.proofs.lanes.Lanes.find_at.Given as goal

abbrev pub invariant-loop-exception : goal.invariant-loop-exception
invariant-loop-exception g l = record {
  none : (m : ℕ) → lane_start l.self (entry_at l.self l.place) ≤ m → m < l.exception → index_of l.self m ≡ l.place % 1024 → ⊥;
  from : lane_start l.self (entry_at l.self l.place) ≤ l.exception;
  end : l.exception-end ≡ lane_start l.self (entry_at l.self l.place + 1);
  within : l.exception - lane_start l.self (entry_at l.self l.place) ≤ lane_start l.self (entry_at l.self l.place + 1) - lane_start l.self (entry_at l.self l.place);
  rise : l.steps ≤ l.initial.steps + (l.exception - lane_start l.self (entry_at l.self l.place));
  monotone : l.initial.steps ≤ l.steps;
}
