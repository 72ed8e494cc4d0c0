use Rattle.vx_column.proofs.Layers.{lanes_here}
use Rattle.vx_column.proofs.LaneRows.{layout_long}
use Rattle.vx_column.proofs.patched.Patched+Column.lanes.Goals as goal

pub returns-clause-sound : goal.returns-clause-sound
returns-clause-sound c = (lanes_here c.args.self.now c.requires).sound

pub returns-clause-len : goal.returns-clause-len
returns-clause-len c = layout_long c.args.self.now c.requires
