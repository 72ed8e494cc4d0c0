use Rattle.vx_bulk.proofs.Constants.{picked_at_same}
use Rattle.vx_bulk.proofs.Fitting.{fits_picked_at}
use Rattle.vx_bulk.proofs.bulk.FlatColumnBulk.pick.Goals as goal

pub column_of-requires : goal.column_of-requires
column_of-requires g c =
    rw (c.dtype.ensures.dtype, c.in_ok-rows-in-None.ensures.ok) (fits_picked_at c.args.self.now.dtype c.args.self.now.rows c.args.places.now c.dtype.ensures.fits c.requires)

pub returns-in-Some-clause-ok : goal.returns-in-Some-clause-ok
returns-in-Some-clause-ok g c =
    rw (picked_at_same c.args.self.now.rows c.in-Some.row.now c.in-Some.ensures c.args.places.now c.requires) c.repeated.ensures.ok
