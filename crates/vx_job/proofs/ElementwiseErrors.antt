-- A step that makes each row of another is free, or some error is true of it.
use Rattle.std.proofs.Common.{◌≡◌, ◌≢◌, ◌⊎◌, inl, inr, ℕ, zero, suc, ◌<◌, [], ◌∷◌, length, get_or, refl, arith, Bool, true, false, Option, Some, None, IsTrue, IsFalse}
use Rattle.std.proofs.lemmas.Bool.{and_parts}
use Rattle.vx_rows.specs.Fits.{row_fits, rows_fit}
use Rattle.vx_rows.specs.Types.{AlikeTypes, is_nested}
use Rattle.vx_rows.specs.declared.dtype.DType.{DType}
use Rattle.vx_rows.specs.declared.value.Value.{Value}
use Rattle.vx_rows.specs.declared.error.ColumnError.{ColumnError}
use Rattle.vx_rows.specs.declared.error.ColumnError.TheVariants.{OutOfMemory, MismatchedTypes, BadCast, UnknownColumn, UnsupportedStep}
use Rattle.vx_base.specs.Column.{Flat}
use Rattle.vx_base.specs.Numbers.{is_integer}
use Rattle.vx_scalars.specs.Elementwise.{IsInteger, IsMisfitAt}
use Rattle.vx_scalars.specs.Scalars.{ScalarView}
use Rattle.vx_job.specs.Rows.{Rows}
use Rattle.vx_job.specs.Selections.{IsLengthError}
use Rattle.vx_job.specs.Elementwise.{IsNestedError, IsTypeError, IsFillError, IsCastError, IsPartnerError, IsZipError}
use Rattle.vx_job.proofs.Decided.{Decided, alike_decided}
use Rattle.vx_job.proofs.SelectionErrors.{SomeOf, NoneOf, length_free, length_judged}

abbrev pub Judged : (ColumnError → Type 0) → Type 0
Judged Error = NoneOf Error ⊎ SomeOf Error

no_types : MismatchedTypes ≢ OutOfMemory
no_types h = cc

no_cast : (row : ℕ) → BadCast row ≢ OutOfMemory
no_cast row h = cc

pub no_column : (source : ℕ) → UnknownColumn source ≢ OutOfMemory
no_column source h = cc

no_support : (number : ℕ) → UnsupportedStep number ≢ OutOfMemory
no_support number h = cc

decided : (b : Bool) → (IsTrue b) ⊎ (IsFalse b)
decided true = inl refl
decided false = inr refl

not_both : (b : Bool) → IsFalse b → IsTrue b → ⊥
not_both b f t = cc

-- one of two errors
abbrev Either : (ColumnError → Type 0) → (ColumnError → Type 0) → ColumnError → Type 0
Either First Second e = First e ⊎ Second e

pub either_free : (First Second : ColumnError → Type 0) → NoneOf First → NoneOf Second → NoneOf (Either First Second)
either_free First Second none other e (inl error) = none e error
either_free First Second none other e (inr error) = other e error

pub either_judged : (First Second : ColumnError → Type 0) → Judged First → Judged Second → Judged (Either First Second)
either_judged First Second (inr (e, some, error)) second = inr (e, some, inl error)
either_judged First Second (inl none) (inr (e, some, error)) = inr (e, some, inr error)
either_judged First Second (inl none) (inl other) = inl (either_free First Second none other)

-- ---- types

pub nested_free : (number : ℕ) (t : DType) → IsFalse (is_nested t) → NoneOf (IsNestedError number t)
nested_free number t plain e error = not_both (is_nested t) plain error.1

pub nested_judged : (number : ℕ) (t : DType) → Judged (IsNestedError number t)
nested_judged number t = by (decided (is_nested t))
  where
    by : (IsTrue (is_nested t)) ⊎ (IsFalse (is_nested t)) → Judged (IsNestedError number t)
    by (inl nested) = inr (UnsupportedStep number, no_support number, (refl, nested))
    by (inr plain) = inl (nested_free number t plain)

pub type_free : (t other : DType) → AlikeTypes t other → NoneOf (IsTypeError t other)
type_free t other alike e error = error.1 alike

pub type_judged : (t other : DType) → Judged (IsTypeError t other)
type_judged t other = by (alike_decided t other)
  where
    by : Decided (AlikeTypes t other) → Judged (IsTypeError t other)
    by (inl alike) = inl (type_free t other alike)
    by (inr apart) = inr (MismatchedTypes, no_types, (refl, apart))

-- ---- fills

fill_without : (t : DType) (value : ScalarView) → AlikeTypes t value.dtype → value.row ≢ None → NoneOf (IsFillError t value)
fill_without t value alike some e (same, inl apart) = apart alike
fill_without t value alike some e (same, inr null) = some null

null_decided : (row : Option Value) → Decided (row ≡ None)
null_decided None = inl refl
null_decided (Some v) = inr (λ h. cc)

fill_errors : (t : DType) (value : ScalarView) → Judged (IsFillError t value)
fill_errors t value = by (alike_decided t value.dtype) (null_decided value.row)
  where
    by : Decided (AlikeTypes t value.dtype) → Decided (value.row ≡ None) → Judged (IsFillError t value)
    by (inr apart) null = inr (MismatchedTypes, no_types, (refl, inl apart))
    by (inl alike) (inl null) = inr (MismatchedTypes, no_types, (refl, inr null))
    by (inl alike) (inr some) = inl (fill_without t value alike some)

-- a value of the type, which is not null, fills rows whose type isn't nested
pub fill_free : (number : ℕ) (t : DType) (value : ScalarView) → IsFalse (is_nested t) → AlikeTypes t value.dtype → value.row ≢ None → NoneOf (λ e. IsNestedError number t e ⊎ IsFillError t value e)
fill_free number t value plain alike some = either_free (IsNestedError number t) (IsFillError t value) (nested_free number t plain) (fill_without t value alike some)

pub fill_judged : (number : ℕ) (t : DType) (value : ScalarView) → Judged (λ e. IsNestedError number t e ⊎ IsFillError t value e)
fill_judged number t value = either_judged (IsNestedError number t) (IsFillError t value) (nested_judged number t) (fill_errors t value)

-- ---- casts

fit_there : (t : DType) (rows : Rows) (i : ℕ) → rows_fit t rows ≡ true → i < length rows → row_fits t (get_or rows i None) ≡ true
fit_there t [] i fits h = absurd (omega arith)
fit_there t (row ∷ rows) zero fits h = (and_parts (row_fits t row) (rows_fit t rows) fits).0
fit_there t (row ∷ rows) (suc i) fits h = fit_there t rows i (and_parts (row_fits t row) (rows_fit t rows) fits).1 (omega arith)

cast_without : (t : DType) (rows : Rows) (target : DType) → IsInteger t → IsInteger target → IsTrue (rows_fit target rows) → NoneOf (IsCastError t rows target)
cast_without t rows target own whole fits e (inl (same, inl apart)) = apart own
cast_without t rows target own whole fits e (inl (same, inr apart)) = apart whole
cast_without t rows target own whole fits e (inr (row, same, _, _, (inside, misfit))) = not_both (row_fits target (get_or rows row None)) misfit (fit_there target rows row fits inside)

misfit_or_fit : (target : DType) (rows : Rows) → (IsTrue (rows_fit target rows)) ⊎ ((row : ℕ) × IsMisfitAt target rows row)
misfit_or_fit target [] = inl refl
misfit_or_fit target (row ∷ rows) = by (decided (row_fits target row)) (misfit_or_fit target rows)
  where
    by : (IsTrue (row_fits target row)) ⊎ (IsFalse (row_fits target row)) → (IsTrue (rows_fit target rows)) ⊎ ((k : ℕ) × IsMisfitAt target rows k)
        → (IsTrue (rows_fit target (row ∷ rows))) ⊎ ((k : ℕ) × IsMisfitAt target (row ∷ rows) k)
    by (inr misfit) rest = inr (0, (omega arith, misfit))
    by (inl fits) (inl all) = inl cc
    by (inl fits) (inr (k, (short, misfit))) = inr (suc k, (omega arith, misfit))

cast_errors : (t : DType) (rows : Rows) (target : DType) → Judged (IsCastError t rows target)
cast_errors t rows target = by (decided (is_integer t)) (decided (is_integer target)) (misfit_or_fit target rows)
  where
    by : (IsInteger t) ⊎ (IsFalse (is_integer t)) → (IsInteger target) ⊎ (IsFalse (is_integer target))
        → (IsTrue (rows_fit target rows)) ⊎ ((row : ℕ) × IsMisfitAt target rows row) → Judged (IsCastError t rows target)
    by (inr other) target_is fits = inr (MismatchedTypes, no_types, inl (refl, inl (not_both (is_integer t) other)))
    by (inl own) (inr other) fits = inr (MismatchedTypes, no_types, inl (refl, inr (not_both (is_integer target) other)))
    by (inl own) (inl whole) (inl fits) = inl (cast_without t rows target own whole fits)
    by (inl own) (inl whole) (inr (row, misfit)) = inr (BadCast row, no_cast row, inr (row, refl, own, whole, misfit))

-- integers are cast to a type of integers that each fits
pub cast_free : (number : ℕ) (t : DType) (rows : Rows) (target : DType) → IsFalse (is_nested t) → IsInteger t → IsInteger target → IsTrue (rows_fit target rows)
    → NoneOf (λ e. IsNestedError number t e ⊎ IsCastError t rows target e)
cast_free number t rows target plain own whole fits =
    either_free (IsNestedError number t) (IsCastError t rows target) (nested_free number t plain) (cast_without t rows target own whole fits)

pub cast_judged : (number : ℕ) (t : DType) (rows : Rows) (target : DType) → Judged (λ e. IsNestedError number t e ⊎ IsCastError t rows target e)
cast_judged number t rows target = either_judged (IsNestedError number t) (IsCastError t rows target) (nested_judged number t) (cast_errors t rows target)

-- ---- comparisons

-- rows whose type isn't nested are compared with a value of the type
pub compare_free : (number : ℕ) (t other : DType) → IsFalse (is_nested t) → AlikeTypes t other → NoneOf (λ e. IsNestedError number t e ⊎ IsTypeError t other e)
compare_free number t other plain alike = either_free (IsNestedError number t) (IsTypeError t other) (nested_free number t plain) (type_free t other alike)

pub compare_judged : (number : ℕ) (t other : DType) → Judged (λ e. IsNestedError number t e ⊎ IsTypeError t other e)
compare_judged number t other = either_judged (IsNestedError number t) (IsTypeError t other) (nested_judged number t) (type_judged t other)

-- ---- zips

-- rows have a partner in rows of a type that is alike, where both the bits and these are as many
pub partner_free : (len bits other : ℕ) (t s : DType) → bits ≡ len → other ≡ len → AlikeTypes t s → NoneOf (IsPartnerError len bits other t s)
partner_free len bits other t s long paired alike =
    either_free (IsLengthError len bits) (λ e. IsLengthError len other e ⊎ IsTypeError t s e) (length_free len bits long)
    (either_free (IsLengthError len other) (IsTypeError t s) (length_free len other paired) (type_free t s alike))

partner_judged : (len bits other : ℕ) (t s : DType) → Judged (IsPartnerError len bits other t s)
partner_judged len bits other t s =
    either_judged (IsLengthError len bits) (λ e. IsLengthError len other e ⊎ IsTypeError t s e) (length_judged len bits)
    (either_judged (IsLengthError len other) (IsTypeError t s) (length_judged len other) (type_judged t s))

pub zip_judged : (source : ℕ) (other : Option Flat) (c : Flat) (bits : ℕ) → Judged (IsZipError source other c bits)
zip_judged source None c bits = inr (UnknownColumn source, no_column source, refl)
zip_judged source (Some other) c bits = partner_judged (length c.rows) bits (length other.rows) c.dtype other.dtype
