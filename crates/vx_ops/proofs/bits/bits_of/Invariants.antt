use Rattle.std.proofs.Common.{◌≡◌, ◌≤◌, Some, take}
use Rattle.vx_rows.specs.declared.value.Value.{Int}
use Rattle.vx_scalars.specs.Elementwise.{compared}
use Rattle.vx_lane_compare.specs.Bits.{as_rows}
use Rattle.vx_ops.proofs.bits.bits_of.Given as goal

abbrev pub invariant-loop-i : goal.invariant-loop-i
invariant-loop-i g l = record {
  bits : as_rows l.bits.items ≡ compared l.op (Some (Int l.number)) (take l.i l.rows.rows);
  monotone : l.fn.steps ≤ l.steps;
}
