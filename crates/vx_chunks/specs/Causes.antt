-- Why boundaries are not made, and why types are refused.
use Rattle.std.specs.Prelude.{◌≡◌, ◌⊎◌, ℕ, ◌≤◌, ◌^◌, List, [], All}
use Rattle.vx_rows.specs.declared.dtype.DType.{DType}
use Rattle.vx_rows.specs.declared.error.ColumnError.{ColumnError}
use Rattle.vx_rows.specs.declared.error.ColumnError.TheVariants.{OutOfMemory, Malformed, MismatchedTypes}
use Rattle.vx_rows.specs.declared.error.Rule.TheVariants.{TooLong}

-- the sum of the lengths is no usize
abbrev pub SumCause : ℕ → ColumnError → Type 0
SumCause sum e = (e ≡ OutOfMemory) ⊎ ((e ≡ Malformed [] TooLong) × (2 ^ 64 ≤ sum))

-- some type is another
abbrev pub TypesCause : List DType → DType → ColumnError → Type 0
TypesCause types t e = (e ≡ MismatchedTypes) × (All (λ s. s ≡ t) types → ⊥)
