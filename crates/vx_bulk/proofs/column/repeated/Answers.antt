use Rattle.std.proofs.Common.{arith}
use Rattle.vx_bulk.proofs.Constants.{front_same}
use Rattle.vx_bulk.proofs.column.repeated.Goals as goal

pub returns-then-count-len-clause-ok : goal.returns-then-count-len-clause-ok
returns-then-count-len-clause-ok g c =
    rw (front_same c.args.column.now.rows c.args.row.now c.requires.same c.args.count (omega arith)) at c.window.ensures.ok
