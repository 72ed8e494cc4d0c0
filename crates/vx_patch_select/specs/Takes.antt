-- Takes by a column of indices.
use Rattle.std.specs.Prelude.{ℕ, ◌≡◌, ◌⊎◌, Bool, false, cond, List, length, map, unsigned_abs, Option, option_map}
use Rattle.vx_rows.specs.declared.dtype.DType.{DType, out-DType}
use Rattle.vx_rows.specs.declared.dtype.DType.TheOpen.{DType-F}
use Rattle.vx_rows.specs.declared.value.Value.{Value}
use Rattle.vx_rows.specs.declared.error.ColumnError.{ColumnError}
use Rattle.vx_rows.specs.declared.error.ColumnError.TheVariants.{OutOfMemory, MismatchedTypes}
use Rattle.vx_rows.specs.Types.{nullability}
use Rattle.vx_rows.specs.Fits.{is_nullable}
use Rattle.vx_base.specs.Column.{Flat}
use Rattle.vx_base.specs.Numbers.{row_int, is_unsigned_ptype}
use Rattle.vx_bulk.specs.Types.{nullable}
use Rattle.vx_patches.specs.Pairs.{Overlay, pairs_of}
use Rattle.vx_patch_select.specs.Selected.{taken_pairs}
use Rattle.vx_patch_select.specs.Patched.{of_pairs}

abbrev pub layer_names_rows : {A B : Type 0} → DType-F A B → Bool
layer_names_rows (DType-F.Primitive p n) = is_unsigned_ptype p
layer_names_rows t = false

-- a type of unsigned integers, of which a null may be a row too
abbrev pub names_rows : DType → Bool
names_rows t = layer_names_rows (out-DType t)

-- a row of such a type as an index: absent where it is null
abbrev pub asked_index : Option Value → Option ℕ
asked_index row = option_map unsigned_abs (row_int row)

-- the indices that a take column asks for
abbrev pub asked : List (Option Value) → List (Option ℕ)
asked rows = map asked_index rows

-- the type of what is taken: nullable where that of the values or that of the take column is
abbrev pub type_taken : DType → DType → DType
type_taken values indices = cond (is_nullable (nullability indices)) (nullable values) values

-- what a take column leaves of exceptions, and none where there is no pair
abbrev pub taken : Bool → Overlay → Flat → Option Overlay
taken nulls o indices = of_pairs (length indices.rows) (type_taken o.values.dtype indices.dtype) (taken_pairs nulls (pairs_of o) (asked indices.rows))

-- why a take column is refused: it isn't of an unsigned type, or memory is wanted
abbrev pub TakeCause : DType → ColumnError → Type 0
TakeCause t e = (e ≡ OutOfMemory) ⊎ ((e ≡ MismatchedTypes) × (names_rows t ≡ false))
