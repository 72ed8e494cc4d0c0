-- Rows of flat parts that are packed as they are read.
use Rattle.std.specs.Prelude.{◌&&◌, if◌then◌else◌, ℕ, ℤ, List, Bool, is_some, Option, Some, None, option_map}
use Rattle.serde_json.specs.Data.{Data}
use Rattle.serde_json.specs.Find.{as_null, as_bool, as_str}
use Rattle.vx_rows.specs.declared.value.Value.{Value, Bool as BoolValue, Int, Decimal, Utf8, Binary}
use Rattle.vx_buffers.specs.Fits.{is_within, is_below}
use Rattle.vx_json_rows.specs.Forms.{◌>>=◌, integer_of}
use Rattle.vx_json_rows.specs.Texts.{unscaled_of, bytes_of}

-- a value that was read; where there is none, `null` if a null fits
abbrev pub value_or_null : Bool → Option Value → Data → Option (Option Value)
value_or_null null_fits (Some v) d = Some (Some v)
value_or_null null_fits None d = if is_some (as_null d) && null_fits then Some None else None

-- a whole number from the first of the range to the second
abbrev pub within : ℤ × ℤ → Data → Option ℤ
within range d = integer_of d >>= λ z. if is_within range z then Some z else None

-- a row of an integer type of this range
abbrev pub ranged_row : ℤ × ℤ → Bool → Data → Option (Option Value)
ranged_row range null_fits d = value_or_null null_fits (option_map Int (within range d)) d

-- a row of a type of booleans
abbrev pub truth_row : Bool → Data → Option (Option Value)
truth_row null_fits d = value_or_null null_fits (option_map BoolValue (as_bool d)) d

-- a row of a type of texts
abbrev pub text_row : Bool → Data → Option (Option Value)
text_row null_fits d = value_or_null null_fits (option_map Utf8 (as_str d)) d

-- a value that was read, as a row
abbrev pub as_row : Option Value → Option (Option Value)
as_row o = o >>= λ v. Some (Some v)

-- a value that a text writes; where there is no text, `null` if a null fits
abbrev pub written_or_null : Bool → (List ℕ → Option Value) → Option (List ℕ) → Data → Option (Option Value)
written_or_null null_fits f (Some s) d = as_row (f s)
written_or_null null_fits f None d = value_or_null null_fits None d

-- a decimal whose size lies below the bound
abbrev pub decimal_below : ℕ → List ℕ → Option Value
decimal_below bound s = unscaled_of s >>= λ z. if is_below bound z then Some (Decimal z) else None

abbrev pub binary_written : List ℕ → Option Value
binary_written s = bytes_of s >>= λ bytes. Some (Binary bytes)

-- a row of a type of decimals
abbrev pub decimal_row : ℕ → Bool → Data → Option (Option Value)
decimal_row bound null_fits d = written_or_null null_fits (decimal_below bound) (as_str d) d

-- a row of a type of byte strings
abbrev pub bytes_row : Bool → Data → Option (Option Value)
bytes_row null_fits d = written_or_null null_fits binary_written (as_str d) d
