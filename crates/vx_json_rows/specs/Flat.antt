-- The flat rows that JSON values are.
use Rattle.std.specs.Prelude.{List, codes, if◌then◌else◌, Option, Some, None}
use Rattle.serde_json.specs.Data.{Data}
use Rattle.serde_json.specs.Find.{get}
use Rattle.vx_rows.specs.Fits.{rows_fit}
use Rattle.vx_rows.specs.declared.dtype.DType.{DType}
use Rattle.vx_rows.specs.declared.value.Value.{Value}
use Rattle.vx_base.specs.Column.{Flat as FlatRows, flat}
use Rattle.vx_json_rows.specs.Forms.{◌>>=◌, object_of, list_of}
use Rattle.vx_json_rows.specs.Types.{type_of}
use Rattle.vx_json_rows.specs.Rows.{row_of}

-- rows of a type, where each fits
abbrev pub fitted : DType → List (Option Value) → Option FlatRows
fitted t rows = if rows_fit t rows then Some (flat t rows) else None

-- a list of rows of a type, where each fits
abbrev pub fitted_rows : DType → Data → Option FlatRows
fitted_rows t d = list_of (row_of t) d >>= fitted t

-- `{"flat":T,"rows":[row]}`
unfoldable pub flat_form : Data → Option FlatRows
flat_form d = do
  len ← object_of 2 d
  kind ← get (codes "flat") d
  items ← get (codes "rows") d
  t ← type_of kind
  rows ← list_of (row_of t) items
  fitted t rows
