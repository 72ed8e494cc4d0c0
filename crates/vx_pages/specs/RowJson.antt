-- The JSON of rows.
use Rattle.std.specs.Prelude.{ℤ, List, map, ◌||◌, if◌then◌else◌, Option, Some, None}
use Rattle.std.specs.Fmt.{signed_decimal}
use Rattle.hex.specs.Hex.{encode_lower}
use Rattle.serde_json.specs.Data.{Data, null, boolean, number, string, array}
use Rattle.serde_json.specs.Find.{of_integer}
use Rattle.serde_json.specs.View.{items_of}
use Rattle.vx_rows.specs.Fits.{is_in_range}
use Rattle.vx_rows.specs.declared.kinds.PType.TheVariants.{U64, I64}
use Rattle.vx_rows.specs.declared.value.Value.{Value, fold-Value}
use Rattle.vx_rows.specs.declared.value.Value.TheOpen.{Value-F}

-- a number where u64 or i64 holds it, as every integer type of columns is within one of them
abbrev pub int_json : ℤ → Data
int_json z = if is_in_range U64 z || is_in_range I64 z then number (of_integer z) else null

-- a row that is null is `null`
abbrev pub or_null : Option Data → Data
or_null None = null
or_null (Some d) = d

-- a list of rows, each already seen as its JSON
abbrev pub listed : List (Option Data) → Data
listed rows = array (items_of (map or_null rows))

-- one level, with each value inside already seen as its JSON
abbrev pub value_step : Value-F Data → Data
value_step (Value-F.Bool b) = boolean b
value_step (Value-F.Int z) = int_json z
value_step (Value-F.Decimal z) = string (signed_decimal z)
value_step (Value-F.Utf8 text) = string text
value_step (Value-F.Binary bytes) = string (encode_lower bytes)
value_step (Value-F.List rows) = listed rows
value_step (Value-F.Struct rows) = listed rows

abbrev pub value_json : Value → Data
value_json = fold-Value Data value_step

abbrev pub row_json : Option Value → Data
row_json None = null
row_json (Some v) = value_json v

abbrev pub rows_json : List (Option Value) → Data
rows_json rows = array (items_of (map row_json rows))
