use Rattle.std.proofs.Common.{arith}
use Rattle.vx_scalars.specs.Elementwise.{filled_row}
use Rattle.vx_elementwise.proofs.Ranges.{map_range_more}
use Rattle.vx_elementwise.proofs.fill.filled_rows.Goals as goal

pub loop-start-preserved : goal.loop-start-preserved
loop-start-preserved g c = record {
  inside = omega arith;
  rows =
      map_range_more (filled_row c.args.value.now) c.args.column.now.rows _ c.loop-start.start c.block_end-end.result _ _ (omega arith) c.in_ok-block.ensures.ok c.loop-start.invariant.rows c.in_ok-push_filled.ensures.ok;
  cost = omega arith;
}
