use Rattle.std.proofs.Common.{sym, subst, ◌≡◌, get_or, IsTrue, Option, None}
use Rattle.std.proofs.lemmas.Result.{IfOk-weaker}
use Rattle.vx_rows.specs.Fits.{row_fits}
use Rattle.vx_rows.specs.declared.value.Value.{Value}
use Rattle.vx_base.specs.Column.{IsFlat}
use Rattle.vx_column.specs.Columns.{rows_of, type_of}
use Rattle.vx_column.specs.declared.column.Column.TheVariants as column
use Rattle.vx_select.proofs.Typed.{replaced_fits}
use Rattle.vx_select.proofs.gathering.replaced.Goals as goal

pub returns-clause-fits : goal.returns-clause-fits
returns-clause-fits g c =
    let self = c.args.array.now in
    let at = c.args.at in
    let flat = subst IsFlat c.patch_values.ensures c.dtype.ensures.fits in
    let fits = replaced_fits self at c.args.row c.requires.sound flat (sym c.requires.row) c.requires.fit in
    IfOk-weaker c.replaced.result (λ row. row ≡ get_or (rows_of (column.Patched self)) at None) (λ row. IsTrue (row_fits (type_of (column.Patched self)) row))
    (λ row e. subst (λ (r : Option Value). IsTrue (row_fits (type_of (column.Patched self)) r)) (sym e) fits) c.replaced.ensures.ok
