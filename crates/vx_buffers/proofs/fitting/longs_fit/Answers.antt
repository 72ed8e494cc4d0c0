use Rattle.std.proofs.Common.{◌∙◌, sym, ap, pos, arith}
use Rattle.vx_rows.specs.Fits.{is_nullable}
use Rattle.vx_buffers.specs.Fits.{is_within, null_or}
use Rattle.vx_buffers.specs.Stores.{long_value}
use Rattle.vx_buffers.proofs.Fits.{long_fits, null_or_map, misfit_at, fit_at}
use Rattle.vx_buffers.proofs.fitting.longs_fit.Goals as goal

pub returns-then-not-number_fits : goal.returns-then-not-number_fits
returns-then-not-number_fits c =
    misfit_at c.args.dtype.now long_value (λ n. is_within c.number_range-range.result (pos n)) (λ n. long_fits c.args.dtype.now n ∙ ap (λ r. is_within r (pos n)) (sym c.number_range-range.ensures)) c.is_nullable-null_fits.result (c.is_nullable-null_fits.ensures ∙ ap is_nullable c.nullability.ensures)
    c.args.numbers.now c.loop-i.i c.loop-i.invariant c.get.result c.number_fits.result (omega arith) (c.get.ensures) (c.number_fits.ensures ∙ ap (null_or c.is_nullable-null_fits.result (is_within c.number_range-range.result)) c.wide_long.ensures ∙ null_or_map _ _ pos c.get.result) c.if-not-number_fits.true

pub loop-i-preserved : goal.loop-i-preserved
loop-i-preserved c =
    fit_at c.args.dtype.now long_value (λ n. is_within c.number_range-range.result (pos n)) (λ n. long_fits c.args.dtype.now n ∙ ap (λ r. is_within r (pos n)) (sym c.number_range-range.ensures)) c.is_nullable-null_fits.result (c.is_nullable-null_fits.ensures ∙ ap is_nullable c.nullability.ensures)
    c.args.numbers.now c.loop-i.i c.loop-i.invariant c.get.result c.number_fits.result (omega arith) (c.get.ensures) (c.number_fits.ensures ∙ ap (null_or c.is_nullable-null_fits.result (is_within c.number_range-range.result)) c.wide_long.ensures ∙ null_or_map _ _ pos c.get.result) c.if-not-number_fits.false
