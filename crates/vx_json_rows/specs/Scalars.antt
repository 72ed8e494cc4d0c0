-- The scalars and the operators that JSON values are.
use Rattle.std.specs.Prelude.{List, ℕ, codes, bytes_eq, if◌then◌else◌, Option, Some, None}
use Rattle.serde_json.specs.Data.{Data}
use Rattle.serde_json.specs.Find.{get, as_str}
use Rattle.vx_scalars.specs.Scalars.{ScalarView, scalar}
use Rattle.vx_scalars.specs.declared.operator.CompareOperator.{CompareOperator}
use Rattle.vx_scalars.specs.declared.operator.CompareOperator.TheVariants.{Eq, NotEq, Gt, Gte, Lt, Lte}
use Rattle.vx_json_rows.specs.Forms.{◌>>=◌, object_of}
use Rattle.vx_json_rows.specs.Types.{type_of}
use Rattle.vx_json_rows.specs.Rows.{row_of, fitted_row}

-- `{"type":T,"row":row}`, where the row fits the type
unfoldable pub scalar_form : Data → Option ScalarView
scalar_form d = do
  len ← object_of 2 d
  kind ← get (codes "type") d
  item ← get (codes "row") d
  t ← type_of kind
  row ← row_of t item
  fits ← fitted_row t row
  Some (scalar t row)

-- the operator of this name
abbrev pub operator_named : List ℕ → Option CompareOperator
operator_named s =
    if bytes_eq s (codes "eq") then Some Eq else (
    if bytes_eq s (codes "ne") then Some NotEq else (
    if bytes_eq s (codes "gt") then Some Gt else (
    if bytes_eq s (codes "ge") then Some Gte else (
    if bytes_eq s (codes "lt") then Some Lt else (
    if bytes_eq s (codes "le") then Some Lte else None)))))

-- the operator that a text names
abbrev pub operator_of : Data → Option CompareOperator
operator_of d = as_str d >>= operator_named
