-- Why two columns aren't paired or zipped, and why a function isn't pushed.
use Rattle.std.specs.Prelude.{◌≡◌, ◌⊎◌, ℕ, Option, None}
use Rattle.vx_rows.specs.declared.dtype.DType.{DType}
use Rattle.vx_rows.specs.declared.error.ColumnError.{ColumnError}
use Rattle.vx_rows.specs.declared.error.ColumnError.TheVariants.{OutOfMemory, MismatchedTypes}
use Rattle.vx_job.specs.Selections.{IsLengthError}
use Rattle.vx_job.specs.Elementwise.{IsPartnerError}

-- no memory, or the other has another number of rows
abbrev pub PairCause : ℕ → ℕ → ColumnError → Type 0
PairCause len other e = (e ≡ OutOfMemory) ⊎ IsLengthError len other e

-- no memory, or the other can't be the partner
abbrev pub ZipCause : ℕ → ℕ → ℕ → DType → DType → ColumnError → Type 0
ZipCause len choice other t s e = (e ≡ OutOfMemory) ⊎ IsPartnerError len choice other t s e

-- no memory, or the function has no type for what it would give
abbrev pub PushCause : Option DType → ColumnError → Type 0
PushCause out e = (e ≡ OutOfMemory) ⊎ ((e ≡ MismatchedTypes) × (out ≡ None))
