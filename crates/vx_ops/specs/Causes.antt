-- Why a call is refused, by the rows and the type of the column and by what else it is given.
use Rattle.std.specs.Prelude.{◌≡◌, ◌⊎◌, ◌+◌, ℕ}
use Rattle.vx_rows.specs.declared.dtype.DType.{DType}
use Rattle.vx_rows.specs.declared.error.ColumnError.{ColumnError}
use Rattle.vx_rows.specs.declared.error.ColumnError.TheVariants.{OutOfMemory, BadCast}
use Rattle.vx_scalars.specs.Elementwise.{IsMisfitAt}
use Rattle.vx_scalars.specs.Scalars.{ScalarView}
use Rattle.vx_job.specs.Rows.{Rows}
use Rattle.vx_job.specs.Selections.{IsLengthError}
use Rattle.vx_job.specs.Elementwise.{IsTypeError, IsFillError, IsCastError}

-- no memory, or so many bits for another number of rows
abbrev pub MaskCause : ℕ → ℕ → ColumnError → Type 0
MaskCause len found e = (e ≡ OutOfMemory) ⊎ IsLengthError len found e

-- no memory, or the value is of another type or null
abbrev pub FillCause : DType → ScalarView → ColumnError → Type 0
FillCause t value e = (e ≡ OutOfMemory) ⊎ IsFillError t value e

-- no memory, or one of the types isn't of integers, or a row doesn't fit the target
abbrev pub CastCause : DType → Rows → DType → ColumnError → Type 0
CastCause t rows target e = (e ≡ OutOfMemory) ⊎ IsCastError t rows target e

-- no memory, or the value is of another type
abbrev pub CompareCause : DType → ScalarView → ColumnError → Type 0
CompareCause t value e = (e ≡ OutOfMemory) ⊎ IsTypeError t value.dtype e

-- why a cast is refused of rows that stand behind so many others
abbrev pub CauseBehind : ℕ → DType → Rows → ColumnError → Type 0
CauseBehind before target rows e = (e ≡ OutOfMemory) ⊎ ((row : ℕ) × ((e ≡ BadCast (before + row)) × IsMisfitAt target rows row))
