use Rattle.std.proofs.Common.{◌≡◌, ◌-◌, drop, nat_le}
use Rattle.vx_base.specs.Numbers.{numbers_of}
use Rattle.vx_base.specs.Checks.{each_next}
use Rattle.vx_base.proofs.checks.non_decreasing.Given as goal

abbrev pub invariant-loop-i : goal.invariant-loop-i
invariant-loop-i l = each_next nat_le (numbers_of l.column.rows) ≡ each_next nat_le (drop (l.i - 1) (numbers_of l.column.rows))
