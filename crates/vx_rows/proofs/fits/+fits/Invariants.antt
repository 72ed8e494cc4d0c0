use Rattle.std.proofs.Common.{◌≡◌, drop, length}
use Rattle.vx_rows.specs.Fits as spec
use Rattle.vx_rows.proofs.fits.+fits.Given as goal

abbrev pub invariant-each_fits-loop-i : goal.invariant-each_fits-loop-i
invariant-each_fits-loop-i l =
    (spec.each_fits spec.value_fits l.fields l.rows ≡ spec.each_fits spec.value_fits (drop l.i l.fields) (drop l.i l.rows))
    × (length l.rows ≡ length l.fields)

abbrev pub invariant-rows_fit-loop-row : goal.invariant-rows_fit-loop-row
invariant-rows_fit-loop-row l = spec.rows_fit l.dtype l.rows ≡ spec.rows_fit l.dtype (drop l.row-index l.rows)
