use Rattle.std.proofs.Common.{◌≡◌, take}
use Rattle.vx_base.specs.Numbers.{numbers_of}
use Rattle.vx_base.specs.Checks.{count_below}
use Rattle.vx_base.proofs.checks.count_below.Given as goal

abbrev pub invariant-loop-i : goal.invariant-loop-i
invariant-loop-i l = l.count ≡ count_below l.bound (take l.i (numbers_of l.indices.rows))
