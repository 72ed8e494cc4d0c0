use Rattle.vx_bulk.proofs.Fitting.{fits_picked_wider}
use Rattle.vx_bulk.proofs.bulk.FlatColumnBulk.take.Goals as goal

pub nullable_column-requires : goal.nullable_column-requires
nullable_column-requires g c =
    rw (c.dtype.ensures.dtype, c.in_ok-rows.ensures.ok) (fits_picked_wider c.args.self.now.dtype c.args.self.now.rows c.args.places.now c.dtype.ensures.fits c.requires)
