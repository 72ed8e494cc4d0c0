use Rattle.std.proofs.Common.{arith, ◌+◌, ◌≤◌}
use Rattle.std.proofs.Math.Nat.{mul-le-mul, le_refl}
use Rattle.vx_column.specs.Columns.{point_cost, len_of}
use Rattle.vx_column.proofs.column.Column.append_each.Goals as goal

pub returns-in_err-row-clause-rise : goal.returns-in_err-row-clause-rise
returns-in_err-row-clause-rise g c plain =
    let self = c.args.self.now in
    let next : c.loop-at.at + 1 ≤ len_of self = omega (arith, c.len-at-end.ensures) in
    omega (arith, c.row.ensures.rise plain, c.loop-at.invariant.rise plain, mul-le-mul next (le_refl (point_cost self)))

pub returns-in_err-row-clause-monotone : goal.returns-in_err-row-clause-monotone
returns-in_err-row-clause-monotone g c = omega (arith, c.row.ensures.monotone, c.loop-at.invariant.monotone)
