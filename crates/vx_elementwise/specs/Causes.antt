-- Why a cast is refused.
use Rattle.std.specs.Prelude.{◌≡◌, ◌⊎◌, ℕ, List, Option}
use Rattle.vx_rows.specs.declared.dtype.DType.{DType}
use Rattle.vx_rows.specs.declared.value.Value.{Value}
use Rattle.vx_rows.specs.declared.error.ColumnError.{ColumnError}
use Rattle.vx_rows.specs.declared.error.ColumnError.TheVariants.{OutOfMemory, BadCast}
use Rattle.vx_scalars.specs.Elementwise.{IsMisfitAt}

-- no memory, or a row doesn't fit the target
abbrev pub CastCause : DType → List (Option Value) → ColumnError → Type 0
CastCause target rows e = (e ≡ OutOfMemory) ⊎ ((row : ℕ) × ((e ≡ BadCast row) × IsMisfitAt target rows row))
