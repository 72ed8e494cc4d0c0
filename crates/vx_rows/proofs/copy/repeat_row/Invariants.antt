use Rattle.std.proofs.Common.{◌≡◌, replicate}
use Rattle.vx_rows.proofs.copy.repeat_row.Given as goal

abbrev pub invariant-loop-done : goal.invariant-loop-done
invariant-loop-done l = l.copies ≡ replicate l._done l.row
