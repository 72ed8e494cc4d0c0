use Rattle.std.proofs.Common.{◌∙◌, sym, ap, arith}
use Rattle.vx_rows.specs.declared.value.Value.{Decimal}
use Rattle.vx_rows.specs.Fits.{is_nullable}
use Rattle.vx_buffers.specs.Fits.{is_below}
use Rattle.vx_buffers.proofs.Fits.{decimal_fits, misfit_at, fit_at}
use Rattle.vx_buffers.proofs.fitting.decimals_fit.Goals as goal

pub returns-then-not-decimal_fits : goal.returns-then-not-decimal_fits
returns-then-not-decimal_fits c =
    misfit_at c.args.dtype.now Decimal (is_below c.decimal_bound-bound.result) (λ z. decimal_fits c.args.dtype.now z ∙ ap (λ b. is_below b z) (sym c.decimal_bound-bound.ensures)) c.is_nullable-null_fits.result (c.is_nullable-null_fits.ensures ∙ ap is_nullable c.nullability.ensures)
    c.args.unscaled.now c.loop-i.i c.loop-i.invariant c.get.result c.decimal_fits.result (omega arith) (c.get.ensures) (c.decimal_fits.ensures) c.if-not-decimal_fits.true

pub loop-i-preserved : goal.loop-i-preserved
loop-i-preserved c =
    fit_at c.args.dtype.now Decimal (is_below c.decimal_bound-bound.result) (λ z. decimal_fits c.args.dtype.now z ∙ ap (λ b. is_below b z) (sym c.decimal_bound-bound.ensures)) c.is_nullable-null_fits.result (c.is_nullable-null_fits.ensures ∙ ap is_nullable c.nullability.ensures)
    c.args.unscaled.now c.loop-i.i c.loop-i.invariant c.get.result c.decimal_fits.result (omega arith) (c.get.ensures) (c.decimal_fits.ensures) c.if-not-decimal_fits.false
