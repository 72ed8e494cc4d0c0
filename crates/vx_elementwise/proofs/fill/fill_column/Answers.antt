use Rattle.std.proofs.Common.{◌≡◌, ◌∙◌, ap, subst, IfOk}
use Rattle.vx_base.specs.Column.{Flat, flat}
use Rattle.vx_scalars.specs.Elementwise.{filled, filled_type}
use Rattle.vx_scalars.proofs.Fitting.{fits_filled}
use Rattle.vx_elementwise.proofs.fill.fill_column.Goals as goal

pub column_of-requires : goal.column_of-requires
column_of-requires g c =
    rw (c.dtype.ensures.dtype, c.in_ok-rows-in-None.ensures.ok, c.row.ensures.row)
    (fits_filled c.args.column.now.dtype c.args.value.now.dtype c.args.value.now.row c.args.column.now.rows c.requires.types c.row.ensures.fits c.requires.present c.dtype.ensures.fits)

pub returns-in_ok-rows-in-None-clause-ok : goal.returns-in_ok-rows-in-None-clause-ok
returns-in_ok-rows-in-None-clause-ok g c =
    let filled_rows = c.in_ok-rows-in-None.ensures.ok ∙ ap (λ r. filled r c.args.column.now.rows) c.row.ensures.row in
    subst (λ (f : Flat). IfOk c.column_of.result (λ x. x ≡ f)) (λ i. flat (filled_type (c.dtype.ensures.dtype i)) (filled_rows i)) c.column_of.ensures.ok
