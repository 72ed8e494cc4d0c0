-- Why needles are refused.
use Rattle.std.specs.Prelude.{◌≡◌, ◌⊎◌}
use Rattle.vx_rows.specs.Types.{AlikeTypes}
use Rattle.vx_rows.specs.declared.dtype.DType.{DType}
use Rattle.vx_rows.specs.declared.error.ColumnError.{ColumnError}
use Rattle.vx_rows.specs.declared.error.ColumnError.TheVariants.{OutOfMemory, MismatchedTypes}

-- for want of memory, or since the needles' type isn't that of the elements, up to nullability
abbrev pub LookupCause : DType → DType → ColumnError → Type 0
LookupCause elements needles e = (e ≡ OutOfMemory) ⊎ ((e ≡ MismatchedTypes) × (AlikeTypes elements needles → ⊥))
