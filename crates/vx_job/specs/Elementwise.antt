-- Why a step is refused that makes each row of another, and what a zip gives.
use Rattle.std.specs.Prelude.{◌≡◌, ◌⊎◌, ℕ, List, length, Bool, Option, Some, None, IsTrue}
use Rattle.vx_rows.specs.Types.{AlikeTypes, is_nested}
use Rattle.vx_rows.specs.declared.dtype.DType.{DType}
use Rattle.vx_rows.specs.declared.error.ColumnError.{ColumnError}
use Rattle.vx_rows.specs.declared.error.ColumnError.TheVariants.{MismatchedTypes, BadCast, UnknownColumn, UnsupportedStep}
use Rattle.vx_base.specs.Column.{Flat, flat}
use Rattle.vx_scalars.specs.Elementwise.{IsInteger, IsMisfitAt, chosen, chosen_type}
use Rattle.vx_scalars.specs.Scalars.{ScalarView}
use Rattle.vx_job.specs.Rows.{Rows}
use Rattle.vx_job.specs.Selections.{IsLengthError}

-- the step of this number isn't for types whose rows hold rows
abbrev pub IsNestedError : ℕ → DType → ColumnError → Type 0
IsNestedError number t e = (e ≡ UnsupportedStep number) × IsTrue (is_nested t)

-- the two types aren't the same up to nullability
abbrev pub IsTypeError : DType → DType → ColumnError → Type 0
IsTypeError t other e = (e ≡ MismatchedTypes) × (AlikeTypes t other → ⊥)

-- the value to fill with is of another type or null
abbrev pub IsFillError : DType → ScalarView → ColumnError → Type 0
IsFillError t value e = (e ≡ MismatchedTypes) × ((AlikeTypes t value.dtype → ⊥) ⊎ (value.row ≡ None))

-- one of the types isn't of integers, or the row of this number doesn't fit the target
abbrev pub IsCastError : DType → Rows → DType → ColumnError → Type 0
IsCastError t rows target e =
    ((e ≡ MismatchedTypes) × ((IsInteger t → ⊥) ⊎ (IsInteger target → ⊥)))
    ⊎ ((row : ℕ) × (e ≡ BadCast row) × IsInteger t × IsInteger target × IsMisfitAt target rows row)

-- so many bits, or rows of the other, for another number of rows, or types that aren't alike
abbrev pub IsPartnerError : ℕ → ℕ → ℕ → DType → DType → ColumnError → Type 0
IsPartnerError len bits other t s e = IsLengthError len bits e ⊎ (IsLengthError len other e ⊎ IsTypeError t s e)

-- there is no source of this number, or it can't be the partner of these rows
abbrev pub IsZipError : ℕ → Option Flat → Flat → ℕ → ColumnError → Type 0
IsZipError source None c bits e = e ≡ UnknownColumn source
IsZipError source (Some other) c bits e = IsPartnerError (length c.rows) bits (length other.rows) c.dtype other.dtype e

-- the rows of the first where the bit is true, else those of the source, where there is one
abbrev pub zipped : Flat → Option Flat → List Bool → Flat
zipped c None bits = c
zipped c (Some other) bits = flat (chosen_type c.dtype other.dtype) (chosen c.rows other.rows bits)
