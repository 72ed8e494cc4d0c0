-- The whole numbers of rows, and the columns that hold nothing else.
use Rattle.std.specs.Prelude.{ℕ, ℤ, Bool, true, false, List, Option, Some, None, map, unsigned_abs}
use Rattle.vx_rows.specs.declared.kinds.PType.{PType}
use Rattle.vx_rows.specs.declared.kinds.PType.TheVariants.{U8, U16, U32, U64}
use Rattle.vx_rows.specs.declared.kinds.Nullability.TheVariants.{NonNullable}
use Rattle.vx_rows.specs.declared.dtype.DType.{DType, out-DType}
use Rattle.vx_rows.specs.declared.dtype.DType.TheOpen.{DType-F}
use Rattle.vx_rows.specs.declared.value.Value.{Value, out-Value}
use Rattle.vx_rows.specs.declared.value.Value.TheOpen.{Value-F}

abbrev pub layer_int : {A : Type 0} → Value-F A → Option ℤ
layer_int (Value-F.Int z) = Some z
layer_int x = None

-- the number that a row of an integer type is, None for a null
abbrev pub row_int : Option Value → Option ℤ
row_int None = None
row_int (Some v) = layer_int (out-Value v)

abbrev pub magnitude : Option ℤ → ℕ
magnitude None = 0
magnitude (Some z) = unsigned_abs z

-- the numbers of the rows of an unsigned type
abbrev pub numbers_of : List (Option Value) → List ℕ
numbers_of rows = map (λ r. magnitude (row_int r)) rows

abbrev pub layer_is_integer : {A B : Type 0} → DType-F A B → Bool
layer_is_integer (DType-F.Primitive p n) = true
layer_is_integer t = false

-- a type of integers
abbrev pub is_integer : DType → Bool
is_integer t = layer_is_integer (out-DType t)

abbrev pub is_unsigned_ptype : PType → Bool
is_unsigned_ptype U8 = true
is_unsigned_ptype U16 = true
is_unsigned_ptype U32 = true
is_unsigned_ptype U64 = true
is_unsigned_ptype p = false

abbrev pub layer_is_unsigned : {A B : Type 0} → DType-F A B → Bool
layer_is_unsigned (DType-F.Primitive p NonNullable) = is_unsigned_ptype p
layer_is_unsigned t = false

-- a type of unsigned integers of which a null is no row
abbrev pub is_unsigned : DType → Bool
is_unsigned t = layer_is_unsigned (out-DType t)
