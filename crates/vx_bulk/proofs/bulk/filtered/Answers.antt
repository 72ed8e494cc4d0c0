use Rattle.vx_masks.specs.Masks.{bits_of}
use Rattle.vx_bulk.proofs.Constants.{kept_same}
use Rattle.vx_bulk.proofs.Fitting.{fits_kept}
use Rattle.vx_bulk.proofs.bulk.filtered.Goals as goal

pub column_of-requires : goal.column_of-requires
column_of-requires g c =
    rw (c.dtype.ensures.dtype, c.in_ok-rows-in-None.ensures.ok) (fits_kept c.args.column.now.dtype c.args.column.now.rows (bits_of c.args.mask.now) c.dtype.ensures.fits)

pub returns-in-Some-clause-ok : goal.returns-in-Some-clause-ok
returns-in-Some-clause-ok g c =
    rw (kept_same c.args.column.now.rows c.in-Some.row.now c.in-Some.ensures (bits_of c.args.mask.now) c.requires, ← c.true_count.ensures.count) c.repeated.ensures.ok
