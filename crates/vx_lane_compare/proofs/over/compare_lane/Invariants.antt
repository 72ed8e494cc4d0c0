use Rattle.std.proofs.Common.{◌≡◌, ◌+◌, ◌-◌, ◌≤◌, List, Option, Bool, length}
use Rattle.vx_lanes.specs.Layouts.{covered}
use Rattle.vx_lane_compare.specs.Bits.{AreUnder}
use Rattle.vx_lane_compare.proofs.over.compare_lane.Given as goal

abbrev pub invariant-loop-exception : goal.invariant-loop-exception
invariant-loop-exception g l = record {
  len : length l.bits ≡ length l.fn.bits;
  bits : (bare : List (Option Bool)) → AreUnder l.lanes l.op l.value l.fn.range.start bare l.fn.bits → AreUnder l.lanes l.op l.value l.exception bare l.bits;
  past : l.fn.range.start ≤ l.exception;
  within : l.exception ≤ l.fn.range.end;
  rise : l.steps + covered l.lanes l.fn.range.start (length l.fn.bits) ≤ l.fn.steps + (l.exception - l.fn.range.start) + covered l.lanes l.exception (length l.fn.bits);
  monotone : l.fn.steps ≤ l.steps;
}
