-- Which rows are in the sets that a haystack holds.
use Rattle.std.specs.Prelude.{ℤ, Bool, ◌&&◌, Option}
use Rattle.vx_rows.specs.declared.value.Value.{Value}
use Rattle.vx_buffers.specs.Numbers.{row_int}
use Rattle.vx_haystack.specs.declared.primitive.PrimitiveSet.{PrimitiveSet}
use Rattle.vx_haystack.specs.declared.decimal.DecimalSet.{DecimalSet}
use Rattle.vx_haystack.specs.Keys.{of_key, row_decimal}
use Rattle.vx_haystack.specs.Numbers.{has_number}

-- whether the row is an integer that passes the test and is in the set
abbrev pub has_int : {T : Type 0} → (ℤ → Bool) → (T → ℤ) → PrimitiveSet T → Option Value → Bool
has_int native number set row = of_key (λ z. native z && has_number number set.numbers z) (row_int row)

-- whether the row is a decimal of the set
abbrev pub has_decimal : DecimalSet ℤ → Option Value → Bool
has_decimal set row = of_key (has_number (λ z. z) set.numbers) (row_decimal row)
