use Rattle.vx_column.proofs.Layers.{sound_flat}
use Rattle.vx_column.proofs.column.Column.flat.Goals as goal

pub returns-clause-sound : goal.returns-clause-sound
returns-clause-sound c = sound_flat c.args.rows c.dtype.ensures.fits
