use Rattle.std.proofs.Common.{◌≡◌, drop}
use Rattle.vx_base.specs.Numbers.{numbers_of}
use Rattle.vx_base.specs.Checks.{selectors_within}
use Rattle.vx_base.proofs.checks.selectors_within.Given as goal

abbrev pub invariant-loop-i : goal.invariant-loop-i
invariant-loop-i l = selectors_within (numbers_of l.arrays.rows) (numbers_of l.rows.rows) l.lens ≡ selectors_within (drop l.i (numbers_of l.arrays.rows)) (drop l.i (numbers_of l.rows.rows)) l.lens
