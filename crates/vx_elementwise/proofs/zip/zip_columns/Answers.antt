use Rattle.vx_scalars.proofs.Fitting.{fits_chosen}
use Rattle.vx_elementwise.proofs.zip.zip_columns.Goals as goal

pub column_of-requires : goal.column_of-requires
column_of-requires g c =
    rw (c.dtype-3.ensures.dtype, c.either-nullability.ensures, c.dtype.ensures.dtype, c.dtype-2.ensures.dtype, c.in_ok-rows.ensures.ok)
    (fits_chosen c.args.column.now.dtype c.args.other.now.dtype c.args.column.now.rows c.args.other.now.rows c.args.choice.now c.requires.types c.dtype.ensures.fits c.dtype-2.ensures.fits)
