use Rattle.std.proofs.Common.{◌∙◌, sym, ap, arith}
use Rattle.vx_rows.specs.declared.value.Value.{Int}
use Rattle.vx_rows.specs.Fits.{is_nullable}
use Rattle.vx_buffers.specs.Fits.{is_within}
use Rattle.vx_buffers.proofs.Fits.{int_fits, misfit_at, fit_at}
use Rattle.vx_buffers.proofs.fitting.ints_fit.Goals as goal

pub returns-then-not-number_fits : goal.returns-then-not-number_fits
returns-then-not-number_fits c =
    misfit_at c.args.dtype.now Int (is_within c.number_range-range.result) (λ z. int_fits c.args.dtype.now z ∙ ap (λ r. is_within r z) (sym c.number_range-range.ensures)) c.is_nullable-null_fits.result (c.is_nullable-null_fits.ensures ∙ ap is_nullable c.nullability.ensures)
    c.args.numbers.now c.loop-i.i c.loop-i.invariant c.wide_int.result c.number_fits.result (omega arith) (c.wide_int.ensures ∙ c.get.ensures) (c.number_fits.ensures) c.if-not-number_fits.true

pub loop-i-preserved : goal.loop-i-preserved
loop-i-preserved c =
    fit_at c.args.dtype.now Int (is_within c.number_range-range.result) (λ z. int_fits c.args.dtype.now z ∙ ap (λ r. is_within r z) (sym c.number_range-range.ensures)) c.is_nullable-null_fits.result (c.is_nullable-null_fits.ensures ∙ ap is_nullable c.nullability.ensures)
    c.args.numbers.now c.loop-i.i c.loop-i.invariant c.wide_int.result c.number_fits.result (omega arith) (c.wide_int.ensures ∙ c.get.ensures) (c.number_fits.ensures) c.if-not-number_fits.false
