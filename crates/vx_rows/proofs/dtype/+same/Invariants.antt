use Rattle.std.proofs.Common.{◌≡◌, take, length}
use Rattle.vx_rows.proofs.dtype.+same.Given as goal

abbrev pub invariant-same_fields-loop-i : goal.invariant-same_fields-loop-i
invariant-same_fields-loop-i l = (take l.i l.a ≡ take l.i l.b) × (length l.a ≡ length l.b)
