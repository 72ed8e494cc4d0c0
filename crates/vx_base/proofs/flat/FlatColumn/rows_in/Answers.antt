use Rattle.std.proofs.Common.{sym, arith, ◌≡◌, ◌+◌, ◌-◌}
use Rattle.vx_base.proofs.Windows.{rows_inside}
use Rattle.vx_base.proofs.flat.FlatColumn.rows_in.Goals as goal

pub returns-in-Rows-clause-ok : goal.returns-in-Rows-clause-ok
returns-in-Rows-clause-ok c =
    let e = rows_inside c.self.inside c.args.self.now c.self.view_is c.self.invariant _ _ c.requires.order c.requires.inside in
    rw (sym e, c.in-Rows.is, sym c.get.ensures) c.copies.ensures.ok

pub returns-in-Constant-clause-ok : goal.returns-in-Constant-clause-ok
returns-in-Constant-clause-ok c =
    let e = rows_inside c.self.inside c.args.self.now c.self.view_is c.self.invariant _ _ c.requires.order c.requires.inside in
    let at = c.self.inside.start in
    let n : at + c.args.range.end - (at + c.args.range.start) ≡ c.args.range.end - c.args.range.start = omega arith in
    rw (sym e, c.in-Constant.is, n, sym c.get-in-Constant.ensures) c.repeat_row.ensures.ok
