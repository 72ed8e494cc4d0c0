use Rattle.std.proofs.Common.{◌≡◌, drop}
use Rattle.vx_rows.specs.Fits.{rows_fit}
use Rattle.vx_buffers.specs.Stores.{int_rows}
use Rattle.vx_buffers.proofs.fitting.ints_fit.Given as goal

abbrev pub invariant-loop-i : goal.invariant-loop-i
invariant-loop-i l = rows_fit l.dtype (int_rows l.numbers) ≡ rows_fit l.dtype (drop l.i (int_rows l.numbers))
