-- What packed rows that fit lie within.
use Rattle.std.specs.Prelude.{ℕ, ℤ, pos, ◌^◌, Bool, true, false, ◌&&◌, int_le, nat_lt, unsigned_abs, Option, Some, None}
use Rattle.vx_rows.specs.Fits.{ptype_min, ptype_max}
use Rattle.vx_rows.specs.declared.dtype.DType.{DType, out-DType}
use Rattle.vx_rows.specs.declared.dtype.DType.TheOpen.{DType-F}

abbrev pub layer_is_bool : {A B : Type 0} → DType-F A B → Bool
layer_is_bool (DType-F.Bool n) = true
layer_is_bool t = false

-- whether a boolean fits
abbrev pub is_bool : DType → Bool
is_bool t = layer_is_bool (out-DType t)

abbrev pub layer_is_text : {A B : Type 0} → DType-F A B → Bool
layer_is_text (DType-F.Utf8 n) = true
layer_is_text t = false

-- whether a text fits
abbrev pub is_text : DType → Bool
is_text t = layer_is_text (out-DType t)

abbrev pub layer_is_binary : {A B : Type 0} → DType-F A B → Bool
layer_is_binary (DType-F.Binary n) = true
layer_is_binary t = false

-- whether bytes fit
abbrev pub is_binary : DType → Bool
is_binary t = layer_is_binary (out-DType t)

abbrev pub layer_range : {A B : Type 0} → DType-F A B → ℤ × ℤ
layer_range (DType-F.Primitive p n) = (ptype_min p, ptype_max p)
layer_range t = (pos 1, pos 0)

-- the least and the greatest integer that fits, an empty range where none does
abbrev pub number_range : DType → ℤ × ℤ
number_range t = layer_range (out-DType t)

abbrev pub layer_bound : {A B : Type 0} → DType-F A B → ℕ
layer_bound (DType-F.Decimal d n) = 10 ^ d.0
layer_bound t = 0

-- what the size of a decimal that fits lies below
abbrev pub decimal_bound : DType → ℕ
decimal_bound t = layer_bound (out-DType t)

-- a null by a Bool, and a value by a test
abbrev pub null_or : {A : Type 0} → Bool → (A → Bool) → Option A → Bool
null_or null test None = null
null_or null test (Some x) = test x

abbrev pub is_within : ℤ × ℤ → ℤ → Bool
is_within range z = int_le range.0 z && int_le z range.1

abbrev pub is_below : ℕ → ℤ → Bool
is_below bound z = nat_lt (unsigned_abs z) bound

-- a null and a value by a Bool each
abbrev pub valid_or : {A : Type 0} → Bool → Bool → Option A → Bool
valid_or null value None = null
valid_or null value (Some x) = value
