use Rattle.std.proofs.Common.{sym, ap, subst, ◌∙◌, length, get_or, None, IsTrue}
use Rattle.std.proofs.lemmas.List.{length-map}
use Rattle.std.proofs.lemmas.Result.{IfOk-weaker}
use Rattle.vx_rows.specs.Fits.{rows_fit}
use Rattle.vx_rows.specs.declared.dtype.DType.{DType}
use Rattle.vx_job.specs.Kinds.{is_nullable}
use Rattle.vx_job.specs.Rows.{picked as rows_at}
use Rattle.vx_column.specs.Columns.{rows_of, type_of}
use Rattle.vx_bulk.specs.Selections.{picked}
use Rattle.vx_bulk.specs.Types.{nullable}
use Rattle.vx_select.specs.Chosen.{IsSelectionOf}
use Rattle.vx_select.proofs.Typed.{nullable_too, takes_nulls}
use Rattle.vx_select.proofs.Fits.{fits_too}
use Rattle.vx_select.proofs.Selected.{same_rows, same_type}
use Rattle.vx_select.proofs.select.spread_of.Goals as goal

pub spread-requires-clause-many : goal.spread-requires-clause-many
spread-requires-clause-many g c =
    ap length c.in_ok-rows.ensures.ok ∙ length-map c.args.places.now (λ k. get_or (rows_of c.args.column.now) k None) ∙ ap length c.requires.places

pub spread-requires-clause-fit : goal.spread-requires-clause-fit
spread-requires-clause-fit g c =
    let t = type_of c.args.column.now in
    let is = c.in_ok-dtype.ensures.ok ∙ ap nullable c.dtype.ensures in
    subst (λ (d : DType). IsTrue (rows_fit d c.in_ok-rows.rows)) (sym is) (fits_too t (nullable t) c.in_ok-rows.rows (nullable_too t) c.in_ok-rows.ensures.fits)

pub spread-requires-clause-nulls : goal.spread-requires-clause-nulls
spread-requires-clause-nulls g c =
    let is = c.in_ok-dtype.ensures.ok ∙ ap nullable c.dtype.ensures in
    subst (λ (d : DType). IsTrue (is_nullable d)) (sym is) (takes_nulls (type_of c.args.column.now))

pub returns-clause-ok : goal.returns-clause-ok
returns-clause-ok g c =
    let self = c.args.column.now in
    let rows = picked (rows_of self) c.args.indices.now in
    let is = c.in_ok-dtype.ensures.ok ∙ ap nullable c.dtype.ensures in
    let at = c.in_ok-rows.ensures.ok ∙ ap (rows_at (rows_of self)) c.requires.places in
    let chosen = c.in_ok-rows-2.ensures.ok (rows_of self) at in
    IfOk-weaker c.flat_of.result (IsSelectionOf self c.in_ok-dtype.dtype c.in_ok-rows-2.rows) (IsSelectionOf self (nullable (type_of self)) rows)
    (λ part s. same_type self c.in_ok-dtype.dtype (nullable (type_of self)) rows part is (same_rows self c.in_ok-dtype.dtype c.in_ok-rows-2.rows rows part chosen s)) c.flat_of.ensures.ok
