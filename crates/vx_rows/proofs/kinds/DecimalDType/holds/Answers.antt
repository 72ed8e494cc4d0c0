use Rattle.vx_rows.proofs.Fitting.{digits_fit}
use Rattle.vx_rows.proofs.kinds.DecimalDType.holds.Goals as goal

pub pow-requires : goal.pow-requires
pow-requires c = digits_fit _ c.precision.ensures.at_most
