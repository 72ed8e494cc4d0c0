use Rattle.std.proofs.Common.{◌∙◌, ap, sym}
use Rattle.vx_rows.specs.Types.{nullability}
use Rattle.vx_haystack.proofs.Fitting.{all_some}
use Rattle.vx_haystack.proofs.array.validity_of.Goals as goal

pub returns-in-NonNullable-clause-valid : goal.returns-in-NonNullable-clause-valid
returns-in-NonNullable-clause-valid c =
    all_some c.args.needles.now.dtype c.args.needles.now.rows (ap nullability (sym c.dtype.ensures.dtype) ∙ sym c.nullability.ensures ∙ c.in-NonNullable.is) c.dtype.ensures.fits
