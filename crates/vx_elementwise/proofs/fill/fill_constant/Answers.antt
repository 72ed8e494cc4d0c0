use Rattle.std.proofs.Common.{◌≡◌, ◌∙◌, ap, sym, subst, IfOk, length, replicate}
use Rattle.vx_base.specs.Column.{Flat, flat}
use Rattle.vx_scalars.specs.Elementwise.{filled, filled_row, filled_type}
use Rattle.vx_scalars.proofs.Fitting.{fits_filled_row}
use Rattle.vx_scalars.proofs.Lists.{filled_replicate}
use Rattle.vx_elementwise.proofs.Ranges.{fits_repeated}
use Rattle.vx_elementwise.proofs.fill.fill_constant.Goals as goal

pub constant_of-requires : goal.constant_of-requires
constant_of-requires g c =
    rw (c.with_nullability-dtype.ensures, c.in_ok-copy.ensures.ok, c.dtype.ensures.dtype, c.filled_row-row.ensures, c.row.ensures.row)
    (fits_filled_row c.args.column.now.dtype c.args.value.now.dtype c.args.value.now.row c.args.row.now c.requires.types c.row.ensures.fits c.requires.present
    (fits_repeated c.args.column.now.dtype c.args.column.now.rows c.args.row.now (length c.args.column.now.rows) c.dtype.ensures.fits c.requires.same c.requires.some))

pub returns-clause-ok : goal.returns-clause-ok
returns-clause-ok g c =
    let v = c.args.value.now.row in
    let row = c.args.row.now in
    let rows = c.args.column.now.rows in
    let one = c.filled_row-row.ensures ∙ ap (λ r. filled_row r row) c.row.ensures.row in
    let own = c.with_nullability-dtype.ensures ∙ ap filled_type (c.in_ok-copy.ensures.ok ∙ c.dtype.ensures.dtype) in
    let all = (λ i. replicate (c.len.ensures i) (one i)) ∙ sym (filled_replicate v row (length rows)) ∙ ap (filled v) (sym c.requires.same) in
    subst (λ (f : Flat). IfOk c.constant_of.result (λ x. x ≡ f)) (λ i. flat (own i) (all i)) c.constant_of.ensures.ok
