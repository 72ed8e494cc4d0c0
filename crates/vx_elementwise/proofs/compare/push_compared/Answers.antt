use Rattle.std.proofs.Common.{arith, None}
use Rattle.vx_buffers.specs.Stores.{bool_rows}
use Rattle.vx_scalars.specs.Elementwise.{compared_row}
use Rattle.vx_elementwise.proofs.Ranges.{map_one_more}
use Rattle.vx_elementwise.proofs.compare.push_compared.Goals as goal

pub loop-i-preserved : goal.loop-i-preserved
loop-i-preserved c =
    map_one_more (compared_row c.args.op c.args.value.now) c.args.rows.now c.loop-i.i _ None (bool_rows c.args.truths.now) _ _ (omega arith) c.get.ensures c.loop-i.invariant
    c.in_ok-push_truth.ensures.ok
