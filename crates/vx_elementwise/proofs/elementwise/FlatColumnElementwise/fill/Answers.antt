use Rattle.std.proofs.Common.{◌≡◌, ◌∙◌, ap, sym, subst, false, IfOk}
use Rattle.vx_base.specs.Column.{Flat, flat}
use Rattle.vx_rows.specs.Fits.{is_nullable}
use Rattle.vx_rows.specs.Types.{nullability}
use Rattle.vx_scalars.proofs.Fitting.{filled_plain}
use Rattle.vx_scalars.proofs.Types.{filled_type_plain}
use Rattle.vx_elementwise.proofs.elementwise.FlatColumnElementwise.fill.Goals as goal

pub returns-clause-ok : goal.returns-clause-ok
returns-clause-ok g c =
    let t = c.args.self.now.dtype in
    let rows = c.args.self.now.rows in
    let plain : is_nullable (nullability t) ≡ false =
    ap (λ x. is_nullable (nullability x)) (sym c.dtype.ensures.dtype) ∙ ap is_nullable (sym c.nullability.ensures) ∙ sym c.is_nullable.ensures ∙ c.if-is_nullable.false in
    subst (λ (f : Flat). IfOk c.share.result (λ x. x ≡ f)) (sym (λ i. flat (filled_type_plain t plain i) (filled_plain t c.args.value.now.row rows plain c.dtype.ensures.fits i))) c.share.ensures.ok
