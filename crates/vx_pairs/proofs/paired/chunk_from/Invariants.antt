use Rattle.std.proofs.Common.{◌≤◌, ◌-◌, take, length}
use Rattle.vx_chunks.specs.Bounds.{total}
use Rattle.vx_pairs.proofs.paired.chunk_from.Given as goal

abbrev pub invariant-loop-chunk : goal.invariant-loop-chunk
invariant-loop-chunk l = total (take l.chunk l.boundaries) ≤ l.row

abbrev pub decreases-loop-chunk : goal.decreases-loop-chunk
decreases-loop-chunk l = length l.boundaries - l.chunk
