use Rattle.std.proofs.Common.{None}
use Rattle.vx_bulk.proofs.Picks.{run_longer}
use Rattle.vx_bulk.proofs.gather.keep_or_null.Goals as goal

pub returns-then-bit-clause-ok : goal.returns-then-bit-clause-ok
returns-then-bit-clause-ok g c =
    rw c.if-bit.true (run_longer c.args.rows.now c.args.column.now.rows c.args.run.start c.args.run.end None c.requires.order c.requires.inside)
