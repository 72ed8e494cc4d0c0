-- When a read is refused, and when a slot is. Running out of memory may come at any place.
use Rattle.std.specs.Prelude.{◌≡◌, ◌⊎◌, ℕ, ◌≤◌}
use Rattle.vx_rows.specs.declared.error.ColumnError.{ColumnError}
use Rattle.vx_rows.specs.declared.error.ColumnError.TheVariants.{OutOfMemory, OutOfBounds, SlotOutOfRange}

-- row index of len rows is none
abbrev pub PointCause : ℕ → ℕ → ColumnError → Type 0
PointCause len index e = (e ≡ OutOfMemory) ⊎ ((e ≡ OutOfBounds index len) × (len ≤ index))

-- the same where no memory is taken
abbrev pub BeyondCause : ℕ → ℕ → ColumnError → Type 0
BeyondCause len index e = (e ≡ OutOfBounds index len) × (len ≤ index)

-- there is no such slot among n
abbrev pub SlotCause : ℕ → ℕ → ColumnError → Type 0
SlotCause n slot e = (e ≡ SlotOutOfRange slot) × (n ≤ slot)

-- the same where memory is taken
abbrev pub NameCause : ℕ → ℕ → ColumnError → Type 0
NameCause n slot e = (e ≡ OutOfMemory) ⊎ ((e ≡ SlotOutOfRange slot) × (n ≤ slot))
