use Rattle.std.proofs.Common.{map}
use Rattle.vx_column.specs.Columns.{len_of, chunks_of}
use Rattle.vx_pairs.specs.Pairs.{IsPair}
use Rattle.vx_pairs.proofs.Ranges.{each_left}
use Rattle.vx_pairs.proofs.chunks.PairedChunks.next_pair.Goals as goal

pub invariant_of-self : goal.invariant_of-self
invariant_of-self g c =
    let inside = c.self.inside in
    let was = c.self.invariant in
    (was.0, was.1, each_left (IsPair (map len_of (chunks_of inside.left)) (map len_of (chunks_of inside.right))) inside.ranges c.next.new.self c.next.result was.2 c.next.ensures.steps)
