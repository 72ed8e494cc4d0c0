use Rattle.std.proofs.Common.{sym, subst, ◌∙◌, IsTrue}
use Rattle.std.proofs.lemmas.Result.{IfOk-weaker}
use Rattle.vx_rows.specs.Fits.{rows_fit}
use Rattle.vx_rows.specs.declared.dtype.DType.{DType}
use Rattle.vx_job.specs.Rows.{picked as rows_at}
use Rattle.vx_column.specs.Columns.{rows_of, type_of}
use Rattle.vx_select.specs.Chosen.{IsSelectionOf}
use Rattle.vx_select.proofs.Selected.{same_rows, same_type}
use Rattle.vx_select.proofs.select.flat_picked.Goals as goal

pub flat_of-requires : goal.flat_of-requires
flat_of-requires g c =
    subst (λ (t : DType). IsTrue (rows_fit t c.in_ok-rows.rows)) (sym (c.in_ok-dtype.ensures.ok ∙ c.dtype.ensures)) c.in_ok-rows.ensures.fits

pub returns-clause-ok : goal.returns-clause-ok
returns-clause-ok g c =
    let self = c.args.column.now in
    let rows = rows_at (rows_of self) c.args.places.now in
    IfOk-weaker c.flat_of.result (IsSelectionOf self c.in_ok-dtype.dtype c.in_ok-rows.rows) (IsSelectionOf self (type_of self) rows)
    (λ part is. same_type self c.in_ok-dtype.dtype (type_of self) rows part (c.in_ok-dtype.ensures.ok ∙ c.dtype.ensures) (same_rows self c.in_ok-dtype.dtype c.in_ok-rows.rows rows part c.in_ok-rows.ensures.ok is)) c.flat_of.ensures.ok
