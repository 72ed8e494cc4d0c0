-- Laws of slices.
use Rattle.std.specs.Prelude.{ℕ, ◌+◌, ◌-◌, ◌≤◌, ◌≡◌, None}
use Rattle.vx_patches.specs.Places.{Index, IsIndex, within_chunk}
use Rattle.vx_patches.specs.Making.{cut_patches_fault, made_cut}
use Rattle.vx_patches.specs.Slices.{IsSliceOf}
use Rattle.vx_patches.specs.Pairs.{Overlay, IsOverlay, pairs_of, pairs_inside}

-- the pairs inside a range of the pairs inside a range are those inside the composed range
abbrev pub PairsCompose : Type 0
PairsCompose = (o : Overlay) (start end from to : ℕ) → to ≤ end - start →
    pairs_inside from to (pairs_inside start end (pairs_of o)) ≡ pairs_inside (start + from) (start + to) (pairs_of o)

-- a slice of a slice is the one slice by the composed range, chunk offsets and all
abbrev pub ChainIsOneSlice : Type 0
ChainIsOneSlice = (index part rest once : Index) (start end from to first last next final one two : ℕ) → IsIndex index →
    start ≤ end → end ≤ index.len → from ≤ to → to ≤ end - start →
    IsSliceOf index part start end first last → IsSliceOf part rest from to next final → IsSliceOf index once (start + from) (start + to) one two → rest ≡ once

-- the parts of exceptions break no rule, and make the same places again: a slice's too
abbrev pub PartsHold : Type 0
PartsHold = (o : Overlay) → IsOverlay o →
    (cut_patches_fault o.index.len o.index.offset o.index.indices o.values o.index.chunk_offsets (within_chunk o.index) ≡ None)
    × (made_cut o.index.len o.index.offset o.index.indices o.index.chunk_offsets (within_chunk o.index) ≡ o.index)
