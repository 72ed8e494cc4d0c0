-- Which rows fit which types.
use Rattle.std.specs.Prelude.{ℤ, pos, negsuc, ◌^◌, Bool, true, false, ◌&&◌, int_le, nat_lt, nat_eq, unsigned_abs, List, [], ◌∷◌, length, Option, Some, None}
use Rattle.std.specs.List.{list_all}
use Rattle.vx_rows.specs.declared.kinds.Nullability.{Nullability}
use Rattle.vx_rows.specs.declared.kinds.Nullability.TheVariants.{NonNullable, Nullable}
use Rattle.vx_rows.specs.declared.kinds.PType.{PType}
use Rattle.vx_rows.specs.declared.kinds.PType.TheVariants.{U8, U16, U32, U64, I8, I16, I32, I64}
use Rattle.vx_rows.specs.declared.dtype.DType.{DType, out-DType}
use Rattle.vx_rows.specs.declared.dtype.DType.TheOpen.{DType-F}
use Rattle.vx_rows.specs.declared.dtype.Fields.{Fields, out-Fields}
use Rattle.vx_rows.specs.declared.value.Value.{Value, fold-Value}
use Rattle.vx_rows.specs.declared.value.Value.TheOpen.{Value-F}
use Rattle.vx_rows.specs.Types.{nullability}

abbrev pub is_nullable : Nullability → Bool
is_nullable NonNullable = false
is_nullable Nullable = true

abbrev pub ptype_min : PType → ℤ
ptype_min I8 = negsuc 127
ptype_min I16 = negsuc 32767
ptype_min I32 = negsuc 2147483647
ptype_min I64 = negsuc 9223372036854775807
ptype_min _ = pos 0

abbrev pub ptype_max : PType → ℤ
ptype_max U8 = pos 255
ptype_max U16 = pos 65535
ptype_max U32 = pos 4294967295
ptype_max U64 = pos 18446744073709551615
ptype_max I8 = pos 127
ptype_max I16 = pos 32767
ptype_max I32 = pos 2147483647
ptype_max I64 = pos 9223372036854775807

abbrev pub is_in_range : PType → ℤ → Bool
is_in_range p z = int_le (ptype_min p) z && int_le z (ptype_max p)

-- a null fits a nullable type, and a value where `R` says so
abbrev pub option_fits : {A : Type 0} → (A → DType → Bool) → DType → Option A → Bool
option_fits R t None = is_nullable (nullability t)
option_fits R t (Some v) = R v t

-- one row for each type, each of which fits
abbrev pub each_fits : {A N : Type 0} → (A → DType → Bool) → List (N × DType) → List (Option A) → Bool
each_fits R [] [] = true
each_fits R [] (r ∷ rs) = false
each_fits R (f ∷ fs) [] = false
each_fits R (f ∷ fs) (r ∷ rs) = option_fits R f.1 r && each_fits R fs rs

-- one level: `R` says what fits within
abbrev pub layer_fits : {A : Type 0} → (A → DType → Bool) → Value-F A → DType-F DType Fields → Bool
layer_fits R (Value-F.Bool b) (DType-F.Bool n) = true
layer_fits R (Value-F.Int z) (DType-F.Primitive p n) = is_in_range p z
layer_fits R (Value-F.Decimal z) (DType-F.Decimal d n) = nat_lt (unsigned_abs z) (10 ^ d.0)
layer_fits R (Value-F.Utf8 s) (DType-F.Utf8 n) = true
layer_fits R (Value-F.Binary s) (DType-F.Binary n) = true
layer_fits R (Value-F.List rs) (DType-F.List t n) = list_all (option_fits R t) rs
layer_fits R (Value-F.List rs) (DType-F.FixedSizeList t k n) = nat_eq (length rs) k && list_all (option_fits R t) rs
layer_fits R (Value-F.Struct rs) (DType-F.Struct fs n) = each_fits R (out-Fields fs).list rs
layer_fits R x t = false

abbrev pub fits_step : Value-F (DType → Bool) → DType → Bool
fits_step x t = layer_fits (λ f s. f s) x (out-DType t)

abbrev pub value_fits : Value → DType → Bool
value_fits = fold-Value (DType → Bool) fits_step

abbrev pub row_fits : DType → Option Value → Bool
row_fits = option_fits value_fits

abbrev pub rows_fit : DType → List (Option Value) → Bool
rows_fit t rows = list_all (row_fits t) rows
