use Rattle.vx_bulk.proofs.Fitting.{fits_masked}
use Rattle.vx_bulk.proofs.bulk.FlatColumnBulk.mask.Goals as goal

pub nullable_column-requires : goal.nullable_column-requires
nullable_column-requires g c =
    rw (c.dtype.ensures.dtype, c.in_ok-rows.ensures.ok) (fits_masked c.args.self.now.dtype c.args.self.now.rows c.args.keep.now c.dtype.ensures.fits)
