-- Bits that tell how rows of integers compare with a number.
use Rattle.std.proofs.Common.{◌≡◌, ◌<◌, ◌+◌, ◌∙◌, ℕ, ℤ, Bool, true, List, [], ◌∷◌, ◌++◌, Option, Some, None, ap, refl, sym, get_or, length, take}
use Rattle.std.proofs.lemmas.List.{map-append, length-map}
use Rattle.std.specs.Option.{is_some, option_map}
use Rattle.vx_rows.specs.declared.dtype.DType.{DType}
use Rattle.vx_rows.specs.declared.value.Value.{Value, Bool as Truth, Int}
use Rattle.vx_rows.specs.Fits.{rows_fit}
use Rattle.vx_rows.specs.Order.{row_cmp}
use Rattle.vx_base.specs.Numbers.{is_integer, row_int}
use Rattle.vx_scalars.specs.declared.operator.CompareOperator.{CompareOperator}
use Rattle.vx_scalars.specs.Elementwise.{compared, compared_row}
use Rattle.vx_scalars.specs.Operators.{op_holds}
use Rattle.vx_scalars.proofs.Lists.{compared_more, length_compared}
use Rattle.vx_lane_compare.specs.Bits.{as_rows}
use Rattle.vx_lane_compare.proofs.Integers.{row_is, number_there}

-- the bit of a row that is a number
pub bit_of_number : (op : CompareOperator) (row : Option Value) (a b : ℤ) → row_int row ≡ Some a → Some (Truth (op_holds op (row_cmp (Some (Int a)) (Some (Int b))))) ≡ compared_row op (Some (Int b)) row
bit_of_number op row a b e = ap (compared_row op (Some (Int b))) (sym (row_is row a e))

-- the bit of a row that is none
pub bit_of_null : (op : CompareOperator) (t : DType) (rows : List (Option Value)) (i : ℕ) (b : ℤ) → is_integer t ≡ true → rows_fit t rows ≡ true → i < length rows → row_int (get_or rows i None) ≡ None →
    None ≡ compared_row op (Some (Int b)) (get_or rows i None)
bit_of_null op t rows i b h fits inside e = by_row (get_or rows i None) refl
  where
    by_row : (row : Option Value) → get_or rows i None ≡ row → None ≡ compared_row op (Some (Int b)) row
    by_row None is = refl
    by_row (Some v) is = absurd (number_there t rows i fits h inside (ap is_some is) e)

-- one bit more
pub bits_more : (op : CompareOperator) (b : ℤ) (rows : List (Option Value)) (i : ℕ) (bits new : List (Option Bool)) (bit : Option Bool) → i < length rows → new ≡ bits ++ bit ∷ [] →
    as_rows bits ≡ compared op (Some (Int b)) (take i rows) → option_map Truth bit ≡ compared_row op (Some (Int b)) (get_or rows i None) →
    as_rows new ≡ compared op (Some (Int b)) (take (i + 1) rows)
bits_more op b rows i bits new bit h e before here =
    ap as_rows e ∙ map-append (option_map Truth) bits (bit ∷ []) ∙ ap (λ rs. rs ++ option_map Truth bit ∷ []) before ∙ ap (λ r. compared op (Some (Int b)) (take i rows) ++ r ∷ []) here
    ∙ sym (compared_more op (Some (Int b)) rows i h)

pub bits_long : (op : CompareOperator) (b : ℤ) (rows : List (Option Value)) (bits : List (Option Bool)) → as_rows bits ≡ compared op (Some (Int b)) rows → length bits ≡ length rows
bits_long op b rows bits e = sym (length-map bits (option_map Truth)) ∙ ap length e ∙ length_compared op (Some (Int b)) rows
