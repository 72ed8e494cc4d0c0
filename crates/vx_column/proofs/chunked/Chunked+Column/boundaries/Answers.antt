use Rattle.vx_column.proofs.Layers.{chunks_here}
use Rattle.vx_column.proofs.chunked.Chunked+Column.boundaries.Goals as goal

pub returns : goal.returns
returns c = (chunks_here c.args.self.now c.requires).bounds
