-- The rules of selectors, in their order.
use Rattle.std.specs.Prelude.{ℕ, Bool, not, ◌&&◌, ◌==◌, List, [], ◌∷◌, length, Option, Some}
use Rattle.vx_rows.specs.declared.error.Rule.{Rule}
use Rattle.vx_rows.specs.declared.error.Rule.TheVariants.{SelectorType, SelectorLengths, SelectorArray, SelectorRow}
use Rattle.vx_base.specs.Column.{Flat}
use Rattle.vx_base.specs.Numbers.{numbers_of, is_unsigned}
use Rattle.vx_base.specs.Checks.{all_within, selectors_within}
use Rattle.vx_base.specs.Rules.{first_broken}

-- ---- each rule: true where it is broken

-- not both are of an unsigned type without nulls
abbrev pub wrong_type : Flat → Flat → Bool
wrong_type arrays rows = not (is_unsigned arrays.dtype && is_unsigned rows.dtype)

-- there isn't one row number for each array number
abbrev pub wrong_lengths : Flat → Flat → Bool
wrong_lengths arrays rows = not (length arrays.rows == length rows.rows)

-- some array number isn't below the number of lengths
abbrev pub wrong_array : Flat → List ℕ → Bool
wrong_array arrays lens = not (all_within 0 (Some (length lens)) (numbers_of arrays.rows))

-- some row number isn't below the length that its array number names
abbrev pub wrong_row : Flat → Flat → List ℕ → Bool
wrong_row arrays rows lens = not (selectors_within (numbers_of arrays.rows) (numbers_of rows.rows) lens)

-- ---- the first one that is broken

-- each array number is tried before a row number is
abbrev pub selector_fault : Flat → Flat → List ℕ → Option Rule
selector_fault arrays rows lens =
    first_broken ((SelectorType, wrong_type arrays rows) ∷ (SelectorLengths, wrong_lengths arrays rows) ∷ (SelectorArray, wrong_array arrays lens) ∷ (SelectorRow, wrong_row arrays rows lens) ∷ [])
