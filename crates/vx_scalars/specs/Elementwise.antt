-- What the calls mean that work on each row by itself: the rows that they give, and their types.
use Rattle.std.specs.Prelude.{ℕ, ◌<◌, Bool, cond, List, [], ◌∷◌, length, map, get_or, Option, Some, None, IsTrue, IsFalse}
use Rattle.vx_rows.specs.declared.kinds.Nullability.{Nullability}
use Rattle.vx_rows.specs.declared.kinds.Nullability.TheVariants.{NonNullable, Nullable}
use Rattle.vx_rows.specs.declared.dtype.DType.{DType, Bool as BoolType}
use Rattle.vx_rows.specs.declared.value.Value.{Value, Bool as Truth}
use Rattle.vx_rows.specs.Types.{nullability, with_nullability}
use Rattle.vx_rows.specs.Fits.{row_fits}
use Rattle.vx_rows.specs.Order.{value_cmp}
use Rattle.vx_base.specs.Numbers.{is_integer}
use Rattle.vx_scalars.specs.declared.operator.CompareOperator.{CompareOperator}
use Rattle.vx_scalars.specs.Operators.{op_holds}

-- of two lists the element of the first where the bit is true, else that of the second
abbrev pub chosen : {A : Type 0} → List A → List A → List Bool → List A
chosen [] others bits = []
chosen (row ∷ rows) [] bits = []
chosen (row ∷ rows) (other ∷ others) [] = []
chosen (row ∷ rows) (other ∷ others) (bit ∷ bits) = cond bit row other ∷ chosen rows others bits

abbrev pub filled_row : Option Value → Option Value → Option Value
filled_row value None = value
filled_row value (Some v) = Some v

-- the rows, of which each null is replaced by the value
abbrev pub filled : Option Value → List (Option Value) → List (Option Value)
filled value rows = map (filled_row value) rows

abbrev pub compared_row : CompareOperator → Option Value → Option Value → Option Value
compared_row op None row = None
compared_row op (Some value) None = None
compared_row op (Some value) (Some v) = Some (Truth (op_holds op (value_cmp v value)))

-- for each row whether the operator holds between it and the value, and null where one of the two is
abbrev pub compared : CompareOperator → Option Value → List (Option Value) → List (Option Value)
compared op value rows = map (compared_row op value) rows

-- nullable where one of the two is
abbrev pub either : Nullability → Nullability → Nullability
either NonNullable n = n
either Nullable n = Nullable

-- the type of rows that are chosen of rows of two types, which are alike
abbrev pub chosen_type : DType → DType → DType
chosen_type t s = with_nullability t (either (nullability t) (nullability s))

-- the type of rows none of which is null
abbrev pub filled_type : DType → DType
filled_type t = with_nullability t NonNullable

-- the type of what a comparison of rows with a value gives
abbrev pub compared_type : DType → DType → DType
compared_type t s = BoolType (either (nullability t) (nullability s))

-- a type of integers
abbrev pub IsInteger : DType → Type 0
IsInteger t = IsTrue (is_integer t)

-- the row at the place doesn't fit the type
abbrev pub IsMisfitAt : DType → List (Option Value) → ℕ → Type 0
IsMisfitAt target rows i = (i < length rows) × IsFalse (row_fits target (get_or rows i None))
