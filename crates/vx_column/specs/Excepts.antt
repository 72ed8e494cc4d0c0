-- Where a row of a column with exceptions stands, and what a cut keeps of them.
use Rattle.std.specs.Prelude.{◌≡◌, ◌≤◌, ◌<◌, ℕ, [], get_or, Option, Some, None}
use Rattle.std.specs.declared.ops.Range.{Range}
use Rattle.vx_patches.specs.Places.{Index, rows_of as places_of}
use Rattle.vx_patches.specs.Slices.{rows_inside, IsSliceOf as IsPlaceSlice}
use Rattle.vx_column.specs.declared.excepted.Excepted.{Excepted}
use Rattle.vx_column.specs.declared.column.Column.{Column}
use Rattle.vx_column.specs.declared.column.Column.TheVariants as column
use Rattle.vx_column.specs.Columns.{rows_of, len_of, IsSound}

-- row `at` is the values' row at this place, or the base's own
abbrev pub StandsAt : Excepted Column → ℕ → Option ℕ → Type 0
StandsAt e at None = (at < len_of e.base) × (get_or (rows_of (column.Excepted e)) at None ≡ get_or (rows_of e.base) at None)
StandsAt e at (Some place) = (place < len_of e.values) × (get_or (rows_of (column.Excepted e)) at None ≡ get_or (rows_of e.values) place None)

-- no exception of rows start to below end is left, or these places, and the values from the first of them on
abbrev pub IsKeptOf : Excepted Column → ℕ → ℕ → Option (Index × Range ℕ) → Type 0
IsKeptOf e start end None = rows_inside start end (places_of e.index) ≡ []
IsKeptOf e start end (Some kept) =
    IsPlaceSlice e.index kept.0 start end kept.1.start kept.1.end × (kept.1.start ≤ kept.1.end) × (kept.1.end ≤ len_of e.values)

-- the column is exceptions of these parts
pub record IsExceptedOf (base : Column) (index : Index) (values whole : Column) : Type 0 where
  pub array : Excepted Column
  pub is : whole ≡ column.Excepted array
  pub base_is : array.base ≡ base
  pub index_is : array.index ≡ index
  pub values_is : array.values ≡ values
  pub sound : IsSound whole
