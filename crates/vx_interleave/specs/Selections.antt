-- Selectors: for each row, the number of a column and the number of a row in it.
use Rattle.std.specs.Prelude.{◌≡◌, ℕ, ◌<◌, List, length, slice_index, IsTrue, refl}
use Rattle.std.specs.List.{zip, slice_range}
use Rattle.std.specs.Coded.{Coded, code_by, coded×}
use Rattle.vx_base.specs.Column.{Flat, flat, flat_code}
use Rattle.vx_base.specs.Numbers.{numbers_of, is_unsigned}

pub record Selection : Type 0 where
  pub array_indices : Flat
  pub row_indices : Flat

abbrev pub selection : Flat → Flat → Selection
selection arrays rows = record { array_indices = arrays; row_indices = rows }

abbrev pub selection_code : Coded Selection
selection_code = code_by (Flat × Flat) (coded× flat_code flat_code) (λ s. (s.array_indices, s.row_indices)) (λ p. record { array_indices = p.0; row_indices = p.1 }) (λ _. refl)

-- the array numbers, and the row numbers
abbrev pub arrays_of : Selection → List ℕ
arrays_of s = numbers_of s.array_indices.rows

abbrev pub rows_of : Selection → List ℕ
rows_of s = numbers_of s.row_indices.rows

-- what selectors mean: an array number and a row number for each row
abbrev pub pairs_of : Selection → List (ℕ × ℕ)
pairs_of s = zip (arrays_of s) (rows_of s)

-- how many rows they select
abbrev pub len_of : Selection → ℕ
len_of s = length s.array_indices.rows

-- the two numbers of a row
abbrev pub array_of : Selection → ℕ → ℕ
array_of s i = slice_index (arrays_of s) i

abbrev pub row_of : Selection → ℕ → ℕ
row_of s i = slice_index (rows_of s) i

-- what selectors keep: whole numbers, and as many of one as of the other
pub record IsSelection (s : Selection) : Type 0 where
  pub arrays : IsTrue (is_unsigned s.array_indices.dtype)
  pub rows : IsTrue (is_unsigned s.row_indices.dtype)
  pub paired : length s.array_indices.rows ≡ length s.row_indices.rows

-- each array number has a length, and the row number beside it is below that length
abbrev pub AreWithin : Selection → List ℕ → Type 0
AreWithin s lens = (i : ℕ) → i < len_of s → (array_of s i < length lens) × (row_of s i < slice_index lens (array_of s i))

-- rows start to below end
unfoldable pub window_of : Selection → ℕ → ℕ → Selection
window_of s start end =
    selection (flat s.array_indices.dtype (slice_range s.array_indices.rows start end)) (flat s.row_indices.dtype (slice_range s.row_indices.rows start end))
