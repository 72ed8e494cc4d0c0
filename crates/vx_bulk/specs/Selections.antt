-- Lists made of the elements of others, of any type of element. Where an element may be missing, it is an option.
use Rattle.std.specs.Prelude.{ℕ, ◌+◌, ◌<◌, ◌≤◌, Bool, cond, List, [], ◌∷◌, Option, Some, None, map, get_or, slice_set}
use Rattle.std.specs.List.{slice_range, flat_map}
pub use Rattle.vx_masks.specs.Bits.{kept}

abbrev pub picked_row : {A : Type 0} → List (Option A) → Option ℕ → Option A
picked_row rows None = None
picked_row rows (Some place) = get_or rows place None

-- for each place the row there, and none where the place is absent
abbrev pub picked : {A : Type 0} → List (Option A) → List (Option ℕ) → List (Option A)
picked rows places = map (picked_row rows) places

-- the rows at the places
abbrev pub picked_at : {A : Type 0} → List (Option A) → List ℕ → List (Option A)
picked_at rows places = map (λ place. get_or rows place None) places

-- the rows of runs, each of a start and a length, joined: a run of length 0 gives none, whatever its start
abbrev pub joined_runs : {A : Type 0} → List A → List (ℕ × ℕ) → List A
joined_runs rows runs = flat_map (λ run. slice_range rows run.0 (run.0 + run.1)) runs

-- the rows, of which each whose bit is false is replaced by none
abbrev pub masked : {A : Type 0} → List (Option A) → List Bool → List (Option A)
masked [] bits = []
masked (row ∷ rows) [] = []
masked (row ∷ rows) (bit ∷ bits) = cond bit row None ∷ masked rows bits

-- the rows, of which each that a pair names is replaced by the pair's
abbrev pub overlaid : {A : Type 0} → List A → List (ℕ × A) → List A
overlaid rows [] = rows
overlaid rows (pair ∷ pairs) = overlaid (slice_set rows pair.0 pair.1) pairs

-- a place that isn't absent is below the length
abbrev pub IsWithin : ℕ → Option ℕ → Type 0
IsWithin len None = Unit {0}
IsWithin len (Some place) = place < len

-- a run that isn't empty ends at the length or before
abbrev pub IsInside : ℕ → ℕ × ℕ → Type 0
IsInside len run = 0 < run.1 → run.0 + run.1 ≤ len
