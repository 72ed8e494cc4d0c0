-- Bits that tell how rows compare with one value, and how rows under the exceptions of a lane layout do.
use Rattle.std.specs.Prelude.{◌≡◌, ℕ, ◌+◌, ◌<◌, ◌==◌, ℤ, List, [], ◌∷◌, map, length, get_or, Option, Some, None, option_map, Bool, cond}
use Rattle.vx_rows.specs.declared.value.Value.{Value, Bool as Truth, Int}
use Rattle.vx_rows.specs.Order.{row_cmp}
use Rattle.vx_lanes.specs.declared.layout.Layout.{Layout}
use Rattle.vx_lanes.specs.Layouts.{exception_below, pairs_of, paired_with, value_of}
use Rattle.vx_scalars.specs.declared.operator.CompareOperator.{CompareOperator}
use Rattle.vx_scalars.specs.Operators.{op_holds}

-- what becomes of a row's bit under its exception, where it has one: present, it tells how the exception compares
abbrev pub bit_under : CompareOperator → ℤ → Option Bool → Option (Option Value) → Option Bool
bit_under op value None exception = None
bit_under op value (Some bit) None = Some bit
bit_under op value (Some bit) (Some exception) = Some (op_holds op (row_cmp exception (Some (Int value))))

-- the bits of the rows from a row on
abbrev pub bits_from : Layout → CompareOperator → ℤ → ℕ → List (Option Bool) → List (Option Bool)
bits_from l op value row [] = []
bits_from l op value row (bit ∷ bits) = bit_under op value bit (paired_with (pairs_of l) (l.offset + row)) ∷ bits_from l op value (row + 1) bits

abbrev pub compared_bits : Layout → CompareOperator → ℤ → List (Option Bool) → List (Option Bool)
compared_bits l op value bits = bits_from l op value 0 bits

-- bits as the rows of a column
abbrev pub as_rows : List (Option Bool) → List (Option Value)
as_rows bits = map (option_map Truth) bits

-- ---- on the way

-- bits under the first n exceptions
pub record AreUnder (l : Layout) (op : CompareOperator) (value : ℤ) (n : ℕ) (bare now : List (Option Bool)) : Type 0 where
  pub len : length now ≡ length bare
  pub each : (row : ℕ) → row < length bare → get_or now row None ≡ bit_under op value (get_or bare row None) (option_map (value_of l) (exception_below l n row))

-- a bit after exception k came to stand at a place, counted over all chunks
unfoldable pub bit_laid : Layout → CompareOperator → ℤ → ℕ → ℕ → ℕ → Option Bool → Option Bool
bit_laid l op value k place row bit = cond (l.offset + row == place) (bit_under op value bit (Some (value_of l k))) bit
