use Rattle.std.proofs.Common.{◌∙◌, ap}
use Rattle.vx_chunks.specs.Bounds.{total}
use Rattle.vx_column.proofs.Cuts.{total_is}
use Rattle.vx_column.proofs.chunked.Chunked+Column.len.Goals as goal

pub returns : goal.returns
returns c = c.len.ensures ∙ ap total c.boundaries.ensures ∙ total_is c.args.self.now
