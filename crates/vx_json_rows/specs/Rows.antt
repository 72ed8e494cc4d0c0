-- The rows that JSON values are, by type.
use Rattle.std.specs.Prelude.{◌≡◌, if◌then◌else◌, ℤ, List, [], ◌∷◌, ◌++◌, Option, Some, None, Result, Ok, Err, ⊤}
use Rattle.serde_json.specs.Data.{Data}
use Rattle.serde_json.specs.Find.{as_bool, as_str}
use Rattle.vx_rows.specs.declared.dtype.DType.{DType, out-DType}
use Rattle.vx_rows.specs.declared.dtype.DType.TheOpen.{DType-F}
use Rattle.vx_rows.specs.declared.value.Value.{Value, Bool, Int, Decimal, Utf8, Binary}
use Rattle.vx_rows.specs.Fits.{row_fits, is_in_range}
use Rattle.vx_rows.specs.declared.kinds.PType.{PType}
use Rattle.vx_json_rows.specs.Forms.{◌>>=◌, Fails, integer_of, null_or}
use Rattle.vx_json_rows.specs.declared.forms.Unread.{Unread}
use Rattle.vx_json_rows.specs.Texts.{unscaled_of, bytes_of}

-- a text that writes a number, unscaled
abbrev pub decimal_of : Data → Option Value
decimal_of d = as_str d >>= λ s. unscaled_of s >>= λ z. Some (Decimal z)

-- a text that writes bytes
abbrev pub binary_of : Data → Option Value
binary_of d = as_str d >>= λ s. bytes_of s >>= λ bytes. Some (Binary bytes)

-- a value by its type; the values of lists and structs have no reading
abbrev pub layer_value : {A B : Type 0} → DType-F A B → Data → Option Value
layer_value (DType-F.Bool n) d = as_bool d >>= λ b. Some (Bool b)
layer_value (DType-F.Primitive p n) d = integer_of d >>= λ z. Some (Int z)
layer_value (DType-F.Decimal t n) d = decimal_of d
layer_value (DType-F.Utf8 n) d = as_str d >>= λ s. Some (Utf8 s)
layer_value (DType-F.Binary n) d = binary_of d
layer_value (DType-F.List t n) d = None
layer_value (DType-F.FixedSizeList t k n) d = None
layer_value (DType-F.Struct fs n) d = None

abbrev pub value_of : DType → Data → Option Value
value_of t d = layer_value (out-DType t) d

-- a row by its type: `null`, or a value of the type's kind
abbrev pub row_of : DType → Data → Option (Option Value)
row_of t d = null_or (value_of t) d

-- a row of a type, where it fits
abbrev pub fitted_row : DType → Option Value → Option (Option Value)
fitted_row t row = if row_fits t row then Some row else None

-- a row by its type that fits it
abbrev pub fitting_row : DType → Data → Option (Option Value)
fitting_row t d = row_of t d >>= fitted_row t

-- what a call did that puts the row that a reading gives at the end of rows
abbrev pub Pushes : Result ⊤ Unread → Option (Option Value) → List (Option Value) → List (Option Value) → Type 0
Pushes (Ok done) reading old new = (reading >>= λ row. Some (old ++ row ∷ [])) ≡ Some new
Pushes (Err e) reading old new = Fails e reading

-- a whole number in the range of its type
abbrev pub fitting_integer : PType → Data → Option ℤ
fitting_integer p d = integer_of d >>= λ z. if is_in_range p z then Some z else None

abbrev pub integer_row : PType → Data → Option (Option Value)
integer_row p d = fitting_integer p d >>= λ z. Some (Some (Int z))
