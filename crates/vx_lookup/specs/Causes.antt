-- Why a lookup is refused.
use Rattle.std.specs.Prelude.{◌≡◌, ◌⊎◌}
use Rattle.vx_rows.specs.declared.dtype.DType.{DType}
use Rattle.vx_rows.specs.declared.error.ColumnError.{ColumnError}
use Rattle.vx_rows.specs.declared.error.ColumnError.TheVariants.{OutOfMemory}
use Rattle.vx_job.specs.Rows.{Rows}
use Rattle.vx_job.specs.Elementwise.{IsTypeError}
use Rattle.vx_job.specs.Lookups.{IsOrderError}

-- no memory, or the value is of another type, or the rows aren't sorted
abbrev pub SearchCause : DType → Rows → DType → ColumnError → Type 0
SearchCause t rows other e = (e ≡ OutOfMemory) ⊎ (IsTypeError t other e ⊎ IsOrderError rows e)

-- no memory, or the set is of another type
abbrev pub ContainsCause : DType → DType → ColumnError → Type 0
ContainsCause t set e = (e ≡ OutOfMemory) ⊎ IsTypeError t set e
