use Rattle.std.proofs.Common.{arith, refl, ◌<◌, length}
use Rattle.vx_bulk.proofs.Picks.{masked_step}
use Rattle.vx_bulk.proofs.gather.masked_rows.Goals as goal

pub loop-i-preserved : goal.loop-i-preserved
loop-i-preserved g c =
    let rows = c.args.column.now.rows in
    let bits = c.args.keep.now in
    let i = c.loop-i.i in
    let in_bits : i < length bits = omega arith in
    let in_rows : i < length rows = omega arith in
    record {
      order = c.in_ok-start.ensures.start;
      rows = masked_step rows bits i _ _ _ _ in_rows in_bits c.in_ok-start.ensures.ok c.loop-i.invariant.rows refl;
      cost = omega (arith, c.in_ok-start.ensures.cost);
    }
