use Rattle.std.proofs.Common.{ℕ, ◌≤◌, ◌<◌, get_or, map}
use Rattle.vx_patch_flat.specs.Chunks.{IsDecoded}
use Rattle.vx_patch_flat_cases.proofs.chunks.are_decoded.Given as goal

abbrev pub invariant-loop-place : goal.invariant-loop-place
invariant-loop-place g l = (k : ℕ) → l.first ≤ k → k < l.place → IsDecoded l.offset l.chunk l.len (get_or (map g.I.UnsignedPType.number l.indices) k 0)
