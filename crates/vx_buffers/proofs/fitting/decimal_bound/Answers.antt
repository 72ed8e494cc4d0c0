use Rattle.vx_rows.proofs.Fitting.{digits_fit}
use Rattle.vx_buffers.proofs.fitting.decimal_bound.Goals as goal

pub pow-requires : goal.pow-requires
pow-requires c = digits_fit _ c.precision.ensures.at_most
