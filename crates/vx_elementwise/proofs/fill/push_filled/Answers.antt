use Rattle.std.proofs.Common.{arith, refl, None}
use Rattle.vx_scalars.specs.Elementwise.{filled_row}
use Rattle.vx_elementwise.proofs.Ranges.{map_one_more}
use Rattle.vx_elementwise.proofs.fill.push_filled.Goals as goal

pub loop-i-preserved : goal.loop-i-preserved
loop-i-preserved c = record {
  order = c.in_ok-start.ensures.start;
  rows =
      map_one_more (filled_row c.args.value.now) c.args.rows.now c.loop-i.i _ None c.args.filled.now _ _ (omega arith) refl c.loop-i.invariant.rows c.in_ok-start.ensures.ok;
}
