-- Exceptions as pairs of a row and its value.
use Rattle.std.specs.Prelude.{ℕ, ◌-◌, ◌≡◌, ◌≤◌, ◌<◌, slice_index, cond, nat_eq, List, [], ◌∷◌, length, map, Option, Some, None, Result, Ok, Err, refl}
use Rattle.std.specs.List.{filter, zip}
use Rattle.std.specs.Coded.{Coded, code_by, coded×}
use Rattle.vx_rows.specs.declared.value.Value.{Value}
use Rattle.vx_rows.specs.declared.error.ColumnError.{ColumnError}
use Rattle.vx_rows.specs.declared.error.ColumnError.TheVariants.{NoChunkOffsets, OutOfBounds, LengthMismatch}
use Rattle.vx_base.specs.Column.{Flat, flat_code}
use Rattle.vx_base.specs.Numbers.{numbers_of}
use Rattle.vx_patches.specs.Places.{Index, IsIndex, index_code, indices_of, rows_of}
use Rattle.vx_patches.specs.Slices.{lies_inside, place_of, part_of, window}

-- exceptions: their places, and a value for each
pub record Overlay : Type 0 where
  pub index : Index
  pub values : Flat

abbrev pub overlay : Index → Flat → Overlay
overlay index values = record { index = index; values = values }

abbrev pub overlay_code : Coded Overlay
overlay_code = code_by (Index × Flat) (coded× index_code flat_code) (λ o. (o.index, o.values)) (λ p. record { index = p.0; values = p.1 }) (λ _. refl)

pub record IsOverlay (o : Overlay) : Type 0 where
  pub index : IsIndex o.index
  pub values : length o.values.rows ≡ length (indices_of o.index)

-- rows with values
abbrev pub pairs_by : {A : Type 0} → Index → List A → List (ℕ × A)
pairs_by index values = zip (rows_of index) values

-- what exceptions mean
abbrev pub pairs_of : Overlay → List (ℕ × Option Value)
pairs_of o = pairs_by o.index o.values.rows

-- the pairs from row start to below row end, less start
abbrev pub pairs_inside : {A : Type 0} → ℕ → ℕ → List (ℕ × A) → List (ℕ × A)
pairs_inside start end pairs = map (λ p. (p.0 - start, p.1)) (filter (λ p. lies_inside start end p.0) pairs)

-- the rows of the pairs
abbrev pub firsts : {A : Type 0} → List (ℕ × A) → List ℕ
firsts pairs = map (λ p. p.0) pairs

-- the value that the pairs give a row
abbrev pub value_at : {A : Type 0} → ℕ → List (ℕ × A) → Option A
value_at row [] = None
value_at row (pair ∷ pairs) = cond (nat_eq pair.0 row) (Some pair.1) (value_at row pairs)

-- a slice: no pair is left, or the pairs inside, with their places as those of a slice of the places
abbrev pub IsPart : Overlay → ℕ → ℕ → Option Overlay → Type 0
IsPart o start end None = pairs_inside start end (pairs_of o) ≡ []
IsPart o start end (Some part) = (pairs_of part ≡ pairs_inside start end (pairs_of o)) × IsOverlay part
    × (part ≡ overlay (part_of o.index start end (place_of start (rows_of o.index)) (place_of end (rows_of o.index))) (window o.values (place_of start (rows_of o.index)) (place_of end (rows_of o.index))))

-- a full range keeps all as it is
abbrev pub IsAll : Overlay → Option Overlay → Type 0
IsAll o None = ⊥
IsAll o (Some part) = part ≡ o

-- an entry of chunk offsets
abbrev pub IsEntry : Option Flat → ℕ → ℕ → Type 0
IsEntry None idx n = ⊥
IsEntry (Some offsets) idx n = (idx < length offsets.rows) × (n ≡ slice_index (numbers_of offsets.rows) idx)

-- why there is none
abbrev pub EntryCause : Option Flat → ℕ → ColumnError → Type 0
EntryCause None idx e = e ≡ NoChunkOffsets
EntryCause (Some offsets) idx e = (e ≡ OutOfBounds idx (length offsets.rows)) × (length offsets.rows ≤ idx)

-- what exceptions become by new values: the same places with these values, where there are as many
abbrev pub mapped : Overlay → Result Flat ColumnError → Result Overlay ColumnError
mapped o (Err e) = Err e
mapped o (Ok values) = cond (nat_eq (length values.rows) (length (pairs_of o))) (Ok (overlay o.index values)) (Err (LengthMismatch (length (pairs_of o)) (length values.rows)))
