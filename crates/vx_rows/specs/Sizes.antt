-- Which rows are more than a few words, and so take memory when they are copied.
use Rattle.std.specs.Prelude.{Bool, true, false, Option, Some, None}
use Rattle.vx_rows.specs.declared.dtype.DType.{DType, out-DType}
use Rattle.vx_rows.specs.declared.dtype.DType.TheOpen.{DType-F}
use Rattle.vx_rows.specs.declared.value.Value.{Value, out-Value}
use Rattle.vx_rows.specs.declared.value.Value.TheOpen.{Value-F}

abbrev pub layer_takes_memory : {A : Type 0} → Value-F A → Bool
layer_takes_memory (Value-F.Bool b) = false
layer_takes_memory (Value-F.Int z) = false
layer_takes_memory (Value-F.Decimal z) = false
layer_takes_memory x = true

-- texts, bytes, lists and structs
abbrev pub value_takes_memory : Value → Bool
value_takes_memory v = layer_takes_memory (out-Value v)

abbrev pub row_takes_memory : Option Value → Bool
row_takes_memory None = false
row_takes_memory (Some v) = value_takes_memory v

abbrev pub layer_type_takes_memory : {A B : Type 0} → DType-F A B → Bool
layer_type_takes_memory (DType-F.Bool n) = false
layer_type_takes_memory (DType-F.Primitive p n) = false
layer_type_takes_memory (DType-F.Decimal d n) = false
layer_type_takes_memory t = true

-- whether a row of the type may be one that takes memory
abbrev pub type_takes_memory : DType → Bool
type_takes_memory t = layer_type_takes_memory (out-DType t)
