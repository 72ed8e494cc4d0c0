use Rattle.vx_buffers.proofs.Spans.{cut_is}
use Rattle.vx_buffers.proofs.binaries.Binaries.truncate.Goals as goal

pub returns : goal.returns
returns c = cut_is c.self.inside.bytes.items c.self.inside.spans c.args.self.now c.self.view_is c.self.invariant c.args.count _ c.truncate.ensures
