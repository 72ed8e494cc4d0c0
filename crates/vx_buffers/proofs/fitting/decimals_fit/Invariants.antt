use Rattle.std.proofs.Common.{◌≡◌, drop}
use Rattle.vx_rows.specs.Fits.{rows_fit}
use Rattle.vx_buffers.specs.Stores.{decimal_rows}
use Rattle.vx_buffers.proofs.fitting.decimals_fit.Given as goal

abbrev pub invariant-loop-i : goal.invariant-loop-i
invariant-loop-i l = rows_fit l.dtype (decimal_rows l.unscaled) ≡ rows_fit l.dtype (drop l.i (decimal_rows l.unscaled))
