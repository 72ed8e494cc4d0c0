use Rattle.std.proofs.Common.{◌≡◌, drop}
use Rattle.vx_rows.specs.Fits.{rows_fit}
use Rattle.vx_buffers.specs.Stores.{long_rows}
use Rattle.vx_buffers.proofs.fitting.longs_fit.Given as goal

abbrev pub invariant-loop-i : goal.invariant-loop-i
invariant-loop-i l = rows_fit l.dtype (long_rows l.numbers) ≡ rows_fit l.dtype (drop l.i (long_rows l.numbers))
