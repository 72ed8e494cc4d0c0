use Rattle.std.proofs.Common.{◌≡◌, ◌+◌, map}
use Rattle.std.specs.List.{range_with_len}
use Rattle.vx_masks.proofs.Counts.{block_rank}
use Rattle.vx_masks.proofs.bits.ranks.Given as goal

-- the counts of the blocks so far, and of the next one
abbrev pub invariant-loop-block : goal.invariant-loop-block
invariant-loop-block l = (l.ranks.items ≡ map (block_rank l.bits) (range_with_len 0 (l.block + 1))) × (l.count ≡ block_rank l.bits l.block)
