use Rattle.vx_ops.proofs.Gains.{gained_flat}
use Rattle.vx_ops.proofs.chunks.push_flat.Goals as goal

pub returns-clause-ok : goal.returns-clause-ok
returns-clause-ok c = gained_flat c.args.rows c.args.chunks.now.items c.push.new.self.items c.flat.result c.in_ok-push.ensures.items c.flat.ensures.value c.flat.ensures.sound
