-- A step that looks values up is free, or some error is true of it.
use Rattle.std.proofs.Common.{◌≡◌, ◌≢◌, ◌⊎◌, inl, inr, ℕ, zero, suc, ◌+◌, [], ◌∷◌, get_or, refl, sym, ap, ◌∙◌, arith, Option, Some, None, IsFalse}
use Rattle.std.specs.declared.cmp.Ordering.{Ordering}
use Rattle.std.specs.declared.cmp.Ordering.TheVariants.{Less, Equal, Greater}
use Rattle.vx_rows.specs.Order.{row_cmp}
use Rattle.vx_rows.specs.Types.{AlikeTypes, is_nested}
use Rattle.vx_rows.specs.declared.dtype.DType.{DType}
use Rattle.vx_rows.specs.declared.value.Value.{Value}
use Rattle.vx_rows.specs.declared.error.ColumnError.TheVariants.{OutOfMemory, Unsorted, UnknownColumn}
use Rattle.vx_base.specs.Column.{Flat}
use Rattle.vx_job.specs.Rows.{Rows}
use Rattle.vx_job.specs.Elementwise.{IsNestedError, IsTypeError}
use Rattle.vx_job.specs.Lookups.{FallsAt, IsAscending, IsOrderError, IsSearchError, IsContainsError}
use Rattle.vx_job.proofs.Decided.{Decided}
use Rattle.vx_job.proofs.SelectionErrors.{NoneOf}
use Rattle.vx_job.proofs.ElementwiseErrors.{Judged, no_column, either_free, either_judged, nested_free, nested_judged, type_free, type_judged}

no_order : Unsorted ≢ OutOfMemory
no_order h = cc

-- ---- order

greater_decided : (o : Ordering) → Decided (o ≡ Greater)
greater_decided Less = inr (λ h. cc)
greater_decided Equal = inr (λ h. cc)
greater_decided Greater = inl refl

next_row : (a : Option Value) (rows : Rows) (i : ℕ) → get_or (a ∷ rows) (suc i + 1) None ≡ get_or rows (i + 1) None
next_row a rows i = let e : suc i + 1 ≡ suc (i + 1) = omega arith in ap (λ k. get_or (a ∷ rows) k None) e

falls_later : (a : Option Value) (rows : Rows) (i : ℕ) → FallsAt rows i → FallsAt (a ∷ rows) (suc i)
falls_later a rows i (short, above) = (omega arith, ap (λ r. row_cmp (get_or rows i None) r) (next_row a rows i) ∙ above)

falls_in_rest : (a : Option Value) (rows : Rows) (i : ℕ) → FallsAt (a ∷ rows) (suc i) → FallsAt rows i
falls_in_rest a rows i (short, above) = (omega arith, ap (λ r. row_cmp (get_or rows i None) r) (sym (next_row a rows i)) ∙ above)

falls_or_ascends : (rows : Rows) → IsAscending rows ⊎ ((i : ℕ) × FallsAt rows i)
falls_or_ascends [] = inl (λ i falls. let h = falls.0 in omega arith)
falls_or_ascends (a ∷ []) = inl (λ i falls. let h = falls.0 in omega arith)
falls_or_ascends (a ∷ (b ∷ rows)) = by (greater_decided (row_cmp a b)) (falls_or_ascends (b ∷ rows))
  where
    both : (row_cmp a b ≡ Greater → ⊥) → IsAscending (b ∷ rows) → IsAscending (a ∷ (b ∷ rows))
    both first rest zero falls = first falls.1
    both first rest (suc i) falls = rest i (falls_in_rest a (b ∷ rows) i falls)

    by : Decided (row_cmp a b ≡ Greater) → IsAscending (b ∷ rows) ⊎ ((i : ℕ) × FallsAt (b ∷ rows) i)
        → IsAscending (a ∷ (b ∷ rows)) ⊎ ((i : ℕ) × FallsAt (a ∷ (b ∷ rows)) i)
    by (inl above) rest = inr (0, (omega arith, above))
    by (inr first) (inl rest) = inl (both first rest)
    by (inr first) (inr (i, falls)) = inr (suc i, falls_later a (b ∷ rows) i falls)

order_free : (rows : Rows) → IsAscending rows → NoneOf (IsOrderError rows)
order_free rows ascends e error = let falls = error.1 in ascends falls.0 falls.1

order_judged : (rows : Rows) → Judged (IsOrderError rows)
order_judged rows = by (falls_or_ascends rows)
  where
    by : IsAscending rows ⊎ ((i : ℕ) × FallsAt rows i) → Judged (IsOrderError rows)
    by (inl ascends) = inl (order_free rows ascends)
    by (inr falls) = inr (Unsorted, no_order, (refl, falls))

-- ---- searches

-- sorted rows whose type isn't nested are searched for a value of the type
pub search_free : (number : ℕ) (t : DType) (rows : Rows) (other : DType) → IsFalse (is_nested t) → AlikeTypes t other → IsAscending rows → NoneOf (IsSearchError number t rows other)
search_free number t rows other plain alike ascends =
    either_free (IsNestedError number t) (λ e. IsTypeError t other e ⊎ IsOrderError rows e) (nested_free number t plain)
    (either_free (IsTypeError t other) (IsOrderError rows) (type_free t other alike) (order_free rows ascends))

pub search_judged : (number : ℕ) (t : DType) (rows : Rows) (other : DType) → Judged (IsSearchError number t rows other)
search_judged number t rows other =
    either_judged (IsNestedError number t) (λ e. IsTypeError t other e ⊎ IsOrderError rows e) (nested_judged number t)
    (either_judged (IsTypeError t other) (IsOrderError rows) (type_judged t other) (order_judged rows))

-- ---- membership

-- rows are looked for in those of a source of the type
pub contains_free : (source : ℕ) (other : Flat) (t : DType) → AlikeTypes t other.dtype → NoneOf (IsContainsError source (Some other) t)
contains_free source other t alike = type_free t other.dtype alike

pub contains_judged : (source : ℕ) (other : Option Flat) (t : DType) → Judged (IsContainsError source other t)
contains_judged source None t = inr (UnknownColumn source, no_column source, refl)
contains_judged source (Some other) t = type_judged t other.dtype
