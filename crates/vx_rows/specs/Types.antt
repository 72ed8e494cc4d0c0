-- What types say of their rows, and types up to their outermost nullability.
use Rattle.std.specs.Prelude.{◌≡◌, ℕ, Bool, true, false, List}
use Rattle.vx_rows.specs.declared.kinds.Nullability.{Nullability}
use Rattle.vx_rows.specs.declared.kinds.Nullability.TheVariants.{NonNullable}
use Rattle.vx_rows.specs.declared.dtype.DType.{DType, out-DType, roll-DType}
use Rattle.vx_rows.specs.declared.dtype.DType.TheOpen.{DType-F, Fields-F}
use Rattle.vx_rows.specs.declared.dtype.Fields.{Fields, out-Fields}

abbrev pub layer_nullability : {A B : Type 0} → DType-F A B → Nullability
layer_nullability (DType-F.Bool n) = n
layer_nullability (DType-F.Primitive p n) = n
layer_nullability (DType-F.Decimal d n) = n
layer_nullability (DType-F.Utf8 n) = n
layer_nullability (DType-F.Binary n) = n
layer_nullability (DType-F.List t n) = n
layer_nullability (DType-F.FixedSizeList t k n) = n
layer_nullability (DType-F.Struct fs n) = n

abbrev pub nullability : DType → Nullability
nullability t = layer_nullability (out-DType t)

abbrev pub layer_with : {A B : Type 0} → Nullability → DType-F A B → DType-F A B
layer_with m (DType-F.Bool n) = DType-F.Bool m
layer_with m (DType-F.Primitive p n) = DType-F.Primitive p m
layer_with m (DType-F.Decimal d n) = DType-F.Decimal d m
layer_with m (DType-F.Utf8 n) = DType-F.Utf8 m
layer_with m (DType-F.Binary n) = DType-F.Binary m
layer_with m (DType-F.List t n) = DType-F.List t m
layer_with m (DType-F.FixedSizeList t k n) = DType-F.FixedSizeList t k m
layer_with m (DType-F.Struct fs n) = DType-F.Struct fs m

-- the type with this outermost nullability
abbrev pub with_nullability : DType → Nullability → DType
with_nullability t m = roll-DType (layer_with m (out-DType t))

-- the two differ at most in the outermost nullability
abbrev pub AlikeTypes : DType → DType → Type 0
AlikeTypes s t = layer_with NonNullable (out-DType s) ≡ layer_with NonNullable (out-DType t)

abbrev pub layer_nested : {A B : Type 0} → DType-F A B → Bool
layer_nested (DType-F.List t n) = true
layer_nested (DType-F.FixedSizeList t k n) = true
layer_nested (DType-F.Struct fs n) = true
layer_nested t = false

-- lists, lists of fixed size and structs
abbrev pub is_nested : DType → Bool
is_nested t = layer_nested (out-DType t)

abbrev pub layer_fields : {A B : Type 0} → Fields-F A B → List (List ℕ × A)
layer_fields fs = fs.list

-- the names and the types of the fields, in order
abbrev pub fields_of : Fields → List (List ℕ × DType)
fields_of fs = layer_fields (out-Fields fs)
