-- Which rows of chunks a filter keeps.
use Rattle.std.specs.Prelude.{ℕ, ◌+◌, ◌-◌, ◌*◌, ◌<◌, ◌≤◌, Bool, IsTrue, IsFalse, List, [], ◌∷◌, All as AllOf, length, nat_le}
use Rattle.std.specs.List.{range_with_len, flat_map}
use Rattle.vx_masks.specs.Bits.{count_true}
use Rattle.vx_chunk_plans.specs.Laid.{laid_from}
use Rattle.vx_chunk_plans.specs.declared.filter.ChunkFilter.{ChunkFilter}
use Rattle.vx_chunk_plans.specs.declared.filter.ChunkFilter.TheVariants.{All, None, Slices, Indices}

-- the places from the start of each slice to below its end
abbrev pub slice_places : List (ℕ × ℕ) → List ℕ
slice_places slices = flat_map (λ slice. range_with_len slice.0 (slice.1 - slice.0)) slices

-- the places that are kept of a chunk of n rows
abbrev pub kept_places : ℕ → ChunkFilter → List ℕ
kept_places n All = range_with_len 0 n
kept_places n None = []
kept_places n (Slices slices) = slice_places slices
kept_places n (Indices indices) = indices

-- the numbers of the rows that are kept of chunks of these lengths, end to end by chunk
abbrev pub kept_rows : List ℕ → List ChunkFilter → List ℕ
kept_rows lens filters = laid_from kept_places 0 lens filters

-- a slice that isn't empty, of n rows
abbrev pub IsSliceOf : ℕ → ℕ × ℕ → Type 0
IsSliceOf n slice = (slice.0 < slice.1) × (slice.1 ≤ n)

-- what is kept lies in the chunk of n rows
abbrev pub KeepsWithin : ℕ → ChunkFilter → Type 0
KeepsWithin n All = Unit {0}
KeepsWithin n None = Unit {0}
KeepsWithin n (Slices slices) = AllOf (IsSliceOf n) slices
KeepsWithin n (Indices indices) = AllOf (λ i. i < n) indices

-- whether at least four of five bits are true
abbrev pub keeps_most : List Bool → Bool
keeps_most bits = nat_le (4 * length bits) (5 * count_true bits)

-- slices stand only where most is kept, and indices only where it isn't
abbrev pub IsSuited : Bool → ChunkFilter → Type 0
IsSuited most All = Unit {0}
IsSuited most None = Unit {0}
IsSuited most (Slices slices) = IsTrue most
IsSuited most (Indices indices) = IsFalse most
