-- The types that JSON values name. Lists, lists of fixed size and structs have no reading.
use Rattle.std.specs.Prelude.{ℕ, List, codes, bytes_eq, ◌&&◌, nat_lt, nat_le, int_le}
use Rattle.std.specs.Prelude.{ℤ, pos, negsuc, if◌then◌else◌, Option, Some, None}
use Rattle.serde_json.specs.Data.{Data}
use Rattle.serde_json.specs.Find.{get, as_str, as_bool}
use Rattle.vx_rows.specs.declared.kinds.Nullability.{Nullability}
use Rattle.vx_rows.specs.declared.kinds.Nullability.TheVariants.{NonNullable, Nullable}
use Rattle.vx_rows.specs.declared.kinds.PType.TheVariants.{U8, U16, U32, U64, I8, I16, I32, I64}
use Rattle.vx_rows.specs.declared.dtype.DType.{DType, Bool, Primitive, Decimal, Utf8, Binary}
use Rattle.vx_json_rows.specs.Forms.{◌>>=◌, has, object_of, pair_of, whole_of, integer_of}

-- the type of this name
abbrev pub plain_named : List ℕ → Option DType
plain_named s =
    if bytes_eq s (codes "bool") then Some (Bool NonNullable) else (
    if bytes_eq s (codes "u8") then Some (Primitive U8 NonNullable) else (
    if bytes_eq s (codes "u16") then Some (Primitive U16 NonNullable) else (
    if bytes_eq s (codes "u32") then Some (Primitive U32 NonNullable) else (
    if bytes_eq s (codes "u64") then Some (Primitive U64 NonNullable) else (
    if bytes_eq s (codes "i8") then Some (Primitive I8 NonNullable) else (
    if bytes_eq s (codes "i16") then Some (Primitive I16 NonNullable) else (
    if bytes_eq s (codes "i32") then Some (Primitive I32 NonNullable) else (
    if bytes_eq s (codes "i64") then Some (Primitive I64 NonNullable) else (
    if bytes_eq s (codes "utf8") then Some (Utf8 NonNullable) else (
    if bytes_eq s (codes "binary") then Some (Binary NonNullable) else None))))))))))

-- the nullable type of this name
abbrev pub nullable_named : List ℕ → Option DType
nullable_named s =
    if bytes_eq s (codes "bool?") then Some (Bool Nullable) else (
    if bytes_eq s (codes "u8?") then Some (Primitive U8 Nullable) else (
    if bytes_eq s (codes "u16?") then Some (Primitive U16 Nullable) else (
    if bytes_eq s (codes "u32?") then Some (Primitive U32 Nullable) else (
    if bytes_eq s (codes "u64?") then Some (Primitive U64 Nullable) else (
    if bytes_eq s (codes "i8?") then Some (Primitive I8 Nullable) else (
    if bytes_eq s (codes "i16?") then Some (Primitive I16 Nullable) else (
    if bytes_eq s (codes "i32?") then Some (Primitive I32 Nullable) else (
    if bytes_eq s (codes "i64?") then Some (Primitive I64 Nullable) else (
    if bytes_eq s (codes "utf8?") then Some (Utf8 Nullable) else (
    if bytes_eq s (codes "binary?") then Some (Binary Nullable) else None))))))))))

-- the first of two, where there is one
abbrev pub or_else : {X : Type 0} → Option X → Option X → Option X
or_else None second = second
or_else (Some x) second = Some x

-- the type that a text names
abbrev pub named_type : Data → Option DType
named_type d = as_str d >>= λ s. or_else (plain_named s) (nullable_named s)

-- digits in all, 1 to 38, and digits behind the point, -128 to 127
abbrev pub digits_of : ℕ → ℤ → Option (ℕ × ℤ)
digits_of p s =
    if nat_lt 0 p && nat_le p 38 && int_le (negsuc 127) s && int_le s (pos 127) then Some (p, s) else None

-- the nullability of a type
abbrev pub nullability_of : Data → Option Nullability
nullability_of d = as_bool d >>= λ b. Some (if b then Nullable else NonNullable)

-- `{"decimal":[p,s],"nullable":b}`
unfoldable pub decimal_form : Data → Option DType
decimal_form d = do
  len ← object_of 2 d
  items ← get (codes "decimal") d
  flag ← get (codes "nullable") d
  sizes ← pair_of whole_of integer_of items
  digits ← digits_of sizes.0 sizes.1
  n ← nullability_of flag
  Some (Decimal digits n)

-- the type that a value names
abbrev pub type_of : Data → Option DType
type_of d = if has (codes "decimal") d then decimal_form d else named_type d
