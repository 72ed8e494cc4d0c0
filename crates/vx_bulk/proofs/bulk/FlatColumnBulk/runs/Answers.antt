use Rattle.vx_bulk.proofs.Fitting.{fits_runs}
use Rattle.vx_bulk.proofs.bulk.FlatColumnBulk.runs.Goals as goal

pub column_of-requires : goal.column_of-requires
column_of-requires g c =
    rw (c.dtype.ensures.dtype, c.in_ok-rows-in-None.ensures.ok) (fits_runs c.args.self.now.dtype c.args.self.now.rows c.args.runs.now c.dtype.ensures.fits)
