use Rattle.vx_buffers.proofs.Spans.{turned_is}
use Rattle.vx_buffers.proofs.binaries.Binaries.reverse.Goals as goal

pub returns-clause-ok : goal.returns-clause-ok
returns-clause-ok c = turned_is c.self.inside.bytes.items c.self.inside.spans c.args.self.now c.self.view_is c.self.invariant _ c.in_ok-reverse.ensures.ok
