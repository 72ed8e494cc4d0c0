use Rattle.std.proofs.Common.{rules}
use Rattle.vx_rows.proofs.Orders.{shorter}
use Rattle.vx_rows.proofs.order.+order.Goals as goal

pub rows_cmp-returns-then-a-b : goal.rows_cmp-returns-then-a-b
rows_cmp-returns-then-a-b t c =
    shorter c.loop-i.i c.args.a.now c.args.b.now (search rules) (search rules) (search rules) c.loop-i.invariant
