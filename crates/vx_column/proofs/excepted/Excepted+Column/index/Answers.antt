use Rattle.vx_column.proofs.Layers.{exceptions_here}
use Rattle.vx_column.proofs.Excepts.{index_len}
use Rattle.vx_column.proofs.excepted.Excepted+Column.index.Goals as goal

pub returns-clause-sound : goal.returns-clause-sound
returns-clause-sound c = (exceptions_here c.args.self.now c.requires).sorted

pub returns-clause-len : goal.returns-clause-len
returns-clause-len c = index_len c.args.self.now c.requires
