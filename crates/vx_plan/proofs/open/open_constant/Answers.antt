use Rattle.std.proofs.Common.{replicate, ◌∙◌}
use Rattle.std.proofs.lemmas.Result.{err_from_is_err_and}
use Rattle.vx_base.specs.Column.{flat}
use Rattle.vx_plan.proofs.Opened.{opened_constant, fits_told}
use Rattle.vx_plan.proofs.Refused.{fault_constant, misfit_told}
use Rattle.vx_plan.proofs.open.open_constant.Goals as goal

pub returns-in_err-rows-clause-err : goal.returns-in_err-rows-clause-err
returns-in_err-rows-clause-err c =
    let p = err_from_is_err_and c.from_residual-in_err-rows.result c.from_residual-in_err-rows.ensures.1 in
    rw (p.1, p.2) (fault_constant c.args.dtype.now c.args.row.now c.args.len c.in_err-rows.field-0.0
    (misfit_told c.args.dtype.now c.in_ok-dtype.dtype c.args.row.now c.in_ok-row.row c.in_err-rows.field-0.0 c.in_ok-dtype.ensures.ok c.in_ok-row.ensures.ok c.in_err-rows.ensures.err))

pub returns-clause-ok : goal.returns-clause-ok
returns-clause-ok c =
    let t = c.in_ok-dtype in
    let r = c.in_ok-row in
    let rows = c.in_ok-rows in
    opened_constant c.args.dtype.now c.args.row.now c.args.len rows.rows c.flat.result c.flat.ensures.value c.flat.ensures.sound
    (rows.ensures.ok.0 ∙ (λ i. flat (t.ensures.ok i) (replicate c.args.len (r.ensures.ok i))))
    (fits_told c.args.dtype.now t.dtype c.args.row.now r.row t.ensures.ok r.ensures.ok rows.ensures.ok.1)
