use Rattle.std.proofs.Common.{◌≡◌, drop}
use Rattle.vx_base.specs.Numbers.{numbers_of}
use Rattle.vx_base.specs.Checks.{all_within}
use Rattle.vx_base.proofs.checks.all_within.Given as goal

abbrev pub invariant-loop-i : goal.invariant-loop-i
invariant-loop-i l = all_within l.lo l.hi (numbers_of l.column.rows) ≡ all_within l.lo l.hi (drop l.i (numbers_of l.column.rows))
