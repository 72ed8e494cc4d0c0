use Rattle.std.proofs.Common.{◌≡◌, take}
use Rattle.vx_rows.proofs.copy.+copy.Given as goal

abbrev pub invariant-copy_rows-loop-row : goal.invariant-copy_rows-loop-row
invariant-copy_rows-loop-row l = l.copies ≡ take l.row-index l.rows
