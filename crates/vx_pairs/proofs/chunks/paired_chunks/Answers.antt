use Rattle.std.proofs.Common.{arith, ap}
use Rattle.vx_chunks.specs.Bounds.{total}
use Rattle.vx_column.proofs.Cuts.{total_is}
use Rattle.vx_pairs.proofs.chunks.paired_chunks.Goals as goal

pub paired-requires : goal.paired-requires
paired-requires c =
    omega (arith, ap total c.boundaries.ensures, ap total c.boundaries-2.ensures, total_is c.args.left.now, total_is c.args.right.now, c.len-expected.ensures, c.len-found.ensures, c.if-found-expected.false)
