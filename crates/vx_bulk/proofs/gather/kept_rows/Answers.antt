use Rattle.std.proofs.Common.{arith, false, ◌<◌, length}
use Rattle.vx_masks.specs.Masks.{bits_of}
use Rattle.vx_bulk.proofs.Picks.{kept_step, count_more}
use Rattle.vx_bulk.proofs.gather.kept_rows.Goals as goal

pub loop-i-preserved : goal.loop-i-preserved
loop-i-preserved g c =
    let rows = c.args.column.now.rows in
    let bits = bits_of c.args.mask.now in
    let i = c.loop-i.i in
    let in_bits : i < length bits = omega arith in
    let in_rows : i < length rows = omega arith in
    record {
      order = c.in_ok-start.ensures.start;
      rows = kept_step rows bits i c.value.result false _ _ in_rows in_bits c.in_ok-start.ensures.ok c.loop-i.invariant.rows c.value.ensures;
      rise = omega arith;
      cost = omega (arith, count_more bits i c.value.result false in_bits c.value.ensures, c.in_ok-start.ensures.cost);
    }
