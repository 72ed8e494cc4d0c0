-- Entries that stand for rows of a lane layout, with its exceptions laid over them.
use Rattle.std.specs.Prelude.{◌≡◌, ℕ, ◌+◌, ◌<◌, List, [], ◌∷◌, map, length, get_or, slice_index, Option, Some, None}
use Rattle.vx_rows.specs.declared.value.Value.{Value}
use Rattle.vx_lanes.specs.declared.layout.Layout.{Layout}
use Rattle.vx_lanes.specs.Layouts.{exception_below, one_if_some, pairs_of, paired_with, replaced, row_under}

-- what becomes of an entry that stands for a row, or for none: one that is a value is replaced where the row has an exception
abbrev pub overlaid_entry : Layout → Option ℕ → Option Value → Option Value
overlaid_entry l None entry = entry
overlaid_entry l (Some row) entry = replaced entry (paired_with (pairs_of l) (l.offset + row))

abbrev pub overlaid_taken : Layout → List (Option ℕ) → List (Option Value) → List (Option Value)
overlaid_taken l [] entries = []
overlaid_taken l (row ∷ rows) [] = []
overlaid_taken l (row ∷ rows) (entry ∷ entries) = overlaid_entry l row entry ∷ overlaid_taken l rows entries

-- the same, where each entry stands for a row
abbrev pub overlaid_kept : Layout → List ℕ → List (Option Value) → List (Option Value)
overlaid_kept l rows entries = overlaid_taken l (map Some rows) entries

-- numbers that rise
abbrev pub IsRising : List ℕ → Type 0
IsRising rows = (i j : ℕ) → i < j → j < length rows → slice_index rows i < slice_index rows j

-- a row that isn't absent is below the length
abbrev pub IsWithin : ℕ → Option ℕ → Type 0
IsWithin len None = Unit {0}
IsWithin len (Some row) = row < len

-- ---- on the way

-- entries that stand for rows, under the first n exceptions
pub record AreUnder (l : Layout) (n : ℕ) (rows : List ℕ) (bare now : List (Option Value)) : Type 0 where
  pub len : length now ≡ length bare
  pub each : (k : ℕ) → k < length bare → get_or now k None ≡ row_under l n (slice_index rows k) (get_or bare k None)

-- how many of the rows have an exception among the first n
unfoldable pub covered_at : Layout → ℕ → List ℕ → ℕ
covered_at l n [] = 0
covered_at l n (row ∷ rows) = one_if_some (exception_below l n row) + covered_at l n rows
