use Rattle.std.proofs.Common.{take, IsTrue}
use Rattle.vx_rows.specs.Fits.{rows_fit}
use Rattle.vx_elementwise.proofs.cast.first_misfit.Given as goal

abbrev pub invariant-loop-i : goal.invariant-loop-i
invariant-loop-i l = IsTrue (rows_fit l.dtype (take l.i l.rows))
