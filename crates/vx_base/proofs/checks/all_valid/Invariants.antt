use Rattle.std.proofs.Common.{◌≡◌, drop}
use Rattle.vx_base.specs.Checks.{all_valid}
use Rattle.vx_base.proofs.checks.all_valid.Given as goal

abbrev pub invariant-loop-i : goal.invariant-loop-i
invariant-loop-i l = all_valid l.column.rows ≡ all_valid (drop l.i l.column.rows)
