-- Rows of chunks that a take names.
use Rattle.std.specs.Prelude.{ℕ, ◌+◌, ◌^◌, ◌<◌, ◌≤◌, ◌≡◌, ◌⊎◌, ◌&&◌, Bool, true, cond, nat_le, length, List, [], ◌∷◌, ◌++◌, All, Contains, map, take, get_or, slice_set, Option, Some, None, option_and_then}
use Rattle.std.specs.List.{slice_get}
use Rattle.vx_rows.specs.declared.error.ColumnError.{ColumnError}
use Rattle.vx_rows.specs.declared.error.ColumnError.TheVariants.{OutOfMemory, OutOfBounds}
use Rattle.vx_chunks.specs.Bounds.{total}
use Rattle.vx_chunk_plans.specs.Laid.{laid_from}

-- the numbers of the rows at places by chunk, in chunks of these lengths, end to end by chunk
abbrev pub bucket_rows : List ℕ → List (List ℕ) → List ℕ
bucket_rows lens buckets = laid_from (λ n places. places) 0 lens buckets

-- each place is one of n rows
abbrev pub AreBelow : ℕ → List ℕ → Type 0
AreBelow n places = All (λ place. place < n) places

-- the rows in order: each entry of the order tells where among the rows its answer stands, or is absent. Without an order the
-- rows are the answers
abbrev pub in_order : List ℕ → Option (List (Option ℕ)) → List (Option ℕ)
in_order rows None = map Some rows
in_order rows (Some order) = map (option_and_then (slice_get rows)) order

-- whether no index that is present is below the one before it, and none below a row
abbrev pub never_falls : ℕ → List (Option ℕ) → Bool
never_falls row [] = true
never_falls row (None ∷ indices) = never_falls row indices
never_falls row (Some index ∷ indices) = nat_le row index && never_falls index indices

-- an index that is present is one of len rows
abbrev pub IsWithin : ℕ → Option ℕ → Type 0
IsWithin len None = Unit {0}
IsWithin len (Some index) = index < len

-- an index that is present is one of len rows or not, and why it is refused then
abbrev pub IsBeyond : ℕ → Option ℕ → ColumnError → Type 0
IsBeyond len None e = ⊥
IsBeyond len (Some index) e = (e ≡ OutOfBounds index len) × (len ≤ index)

-- memory is wanted, or some index is past the end
abbrev pub TakeCause : ℕ → List (Option ℕ) → ColumnError → Type 0
TakeCause len indices e = (e ≡ OutOfMemory) ⊎ ((at : Option ℕ) × (Contains indices at × IsBeyond len at e))

-- the row at a place in a chunk
abbrev pub spot_row : List ℕ → ℕ × ℕ → ℕ
spot_row lens s = total (take s.0 lens) + s.1

-- the same, where there is a spot
abbrev pub row_of : List ℕ → Option (ℕ × ℕ) → Option ℕ
row_of lens None = None
row_of lens (Some s) = Some (spot_row lens s)

-- there is such a chunk, and such a place in it
abbrev pub IsThere : List ℕ → ℕ × ℕ → Type 0
IsThere lens s = (s.0 < length lens) × (s.1 < get_or lens s.0 0)

-- where an index stands: nowhere if it is absent
abbrev pub IsSpotOf : List ℕ → Option ℕ → Option (ℕ × ℕ) → Type 0
IsSpotOf lens None None = Unit {0}
IsSpotOf lens None (Some s) = ⊥
IsSpotOf lens (Some index) None = ⊥
IsSpotOf lens (Some index) (Some s) = IsThere lens s × (spot_row lens s ≡ index)

-- an index that is present is not below a row
abbrev pub IsFrom : ℕ → Option ℕ → Type 0
IsFrom row None = Unit {0}
IsFrom row (Some index) = row ≤ index

-- the row that a next index must not be below, where an index isn't below a row
abbrev pub step_up : ℕ → Option ℕ → Option ℕ
step_up row None = Some row
step_up row (Some index) = cond (nat_le row index) (Some index) None

-- the chunk of a spot, where there is one
abbrev pub chunk_of : Option (ℕ × ℕ) → Option ℕ
chunk_of None = None
chunk_of (Some s) = Some s.0

-- the chunk of a spot, and the one before where there is none
abbrev pub chunk_after : ℕ → Option (ℕ × ℕ) → ℕ
chunk_after chunk None = chunk
chunk_after chunk (Some s) = s.0

-- the chunk of a spot is one of n
abbrev pub IsChunkBelow : ℕ → Option (ℕ × ℕ) → Type 0
IsChunkBelow n None = Unit {0}
IsChunkBelow n (Some s) = s.0 < n

-- buckets with the place of a spot behind those of its chunk
abbrev pub with_spot : List (List ℕ) → Option (ℕ × ℕ) → List (List ℕ)
with_spot buckets None = buckets
with_spot buckets (Some s) = slice_set buckets s.0 (get_or buckets s.0 [] ++ s.1 ∷ [])

-- numbers of which that of the spot's chunk is one more
abbrev pub counted : List ℕ → Option (ℕ × ℕ) → List ℕ
counted next None = next
counted next (Some s) = slice_set next s.0 (get_or next s.0 0 + 1)

-- that number, where there is a spot
abbrev pub number_of : List ℕ → Option (ℕ × ℕ) → Option ℕ
number_of next None = None
number_of next (Some s) = Some (get_or next s.0 0)

-- there is such a number, and the next one is a usize too
abbrev pub HasRoom : List ℕ → Option (ℕ × ℕ) → Type 0
HasRoom next None = Unit {0}
HasRoom next (Some s) = (s.0 < length next) × (get_or next s.0 0 + 1 < 2 ^ 64)

-- the rows of spots
abbrev pub rows_of : List ℕ → List (Option (ℕ × ℕ)) → List (Option ℕ)
rows_of lens spots = map (row_of lens) spots
