use Rattle.std.proofs.Common.{◌≡◌, drop}
use Rattle.vx_rows.specs.Order.{rows_cmp}
use Rattle.vx_rows.proofs.order.+order.Given as goal

abbrev pub invariant-rows_cmp-loop-i : goal.invariant-rows_cmp-loop-i
invariant-rows_cmp-loop-i l = rows_cmp l.a l.b ≡ rows_cmp (drop l.i l.a) (drop l.i l.b)
