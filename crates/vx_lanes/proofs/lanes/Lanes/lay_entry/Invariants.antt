use Rattle.std.proofs.Common.{◌≡◌, ◌+◌, ◌-◌, ◌≤◌, List, Option, length}
use Rattle.vx_rows.specs.declared.value.Value.{Value}
use Rattle.vx_lanes.specs.Layouts.{overlaid_below, covered}
use Rattle.vx_lanes.proofs.lanes.Lanes.lay_entry.Given as goal

abbrev pub invariant-loop-exception : goal.invariant-loop-exception
invariant-loop-exception g l = record {
  len : length l.rows ≡ length l.fn.rows;
  rows : (bare : List (Option Value)) → l.fn.rows ≡ overlaid_below l.self l.from bare → l.rows ≡ overlaid_below l.self l.exception bare;
  past : l.from ≤ l.exception;
  within : l.exception ≤ l.to;
  rise : l.steps + covered l.self l.from (length l.fn.rows) ≤ l.fn.steps + (l.exception - l.from) + covered l.self l.exception (length l.fn.rows);
  monotone : l.fn.steps ≤ l.steps;
}
