use Rattle.std.proofs.Common.{arith, None}
use Rattle.vx_buffers.proofs.Rows.{range_grows}
use Rattle.vx_buffers.proofs.binaries.push_range.Goals as goal

pub loop-i-preserved : goal.loop-i-preserved
loop-i-preserved c =
    range_grows c.loop-i.into c.args.into.now _ c.args.other.now c.args.range.start c.loop-i.i _ None c.loop-i.invariant (omega arith) (omega arith) c.in_ok-push_piece.ensures.ok c.get.ensures
