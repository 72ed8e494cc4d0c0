use Rattle.std.proofs.Common.{◌≡◌, ◌-◌, drop, nat_lt}
use Rattle.vx_base.specs.Numbers.{numbers_of}
use Rattle.vx_base.specs.Checks.{each_next}
use Rattle.vx_base.proofs.checks.strictly_increasing.Given as goal

abbrev pub invariant-loop-i : goal.invariant-loop-i
invariant-loop-i l = each_next nat_lt (numbers_of l.column.rows) ≡ each_next nat_lt (drop (l.i - 1) (numbers_of l.column.rows))
