use Rattle.std.proofs.Common.{◌≡◌, drop}
use Rattle.std.specs.List.{list_all}
use Rattle.vx_rows.specs.Fits.{is_nullable}
use Rattle.vx_rows.specs.Types.{nullability}
use Rattle.vx_buffers.specs.Fits.{valid_or}
use Rattle.vx_buffers.specs.Stores.{rows_of}
use Rattle.vx_buffers.proofs.fitting.all_fit.Given as goal

abbrev pub invariant-loop-i : goal.invariant-loop-i
invariant-loop-i l =
    list_all (valid_or (is_nullable (nullability l.dtype)) l.value_fits) (rows_of l.store)
    ≡ list_all (valid_or (is_nullable (nullability l.dtype)) l.value_fits) (drop l.i (rows_of l.store))
