-- Ranges of rows: which of their ends are cut, and why one is refused.
use Rattle.std.specs.Prelude.{◌≡◌, ◌⊎◌, ◌≤◌, ◌<◌, ◌==◌, ℕ, ◌+◌, cond}
use Rattle.vx_rows.specs.declared.error.ColumnError.{ColumnError}
use Rattle.vx_rows.specs.declared.error.ColumnError.TheVariants.{OutOfMemory, BadRange, OutOfBounds}

-- how many ends of a slice are cut: one where it doesn't begin at the front, and one where it doesn't reach the end
abbrev pub ends_cut : ℕ → ℕ → ℕ → ℕ
ends_cut start end len = cond (start == 0) 0 1 + cond (end == len) 0 1

-- rows start to below end of len rows are no slice, or memory is wanted
abbrev pub SliceCause : ℕ → ℕ → ℕ → ColumnError → Type 0
SliceCause len start end e =
    (e ≡ OutOfMemory) ⊎ (((e ≡ BadRange start end) × (end < start)) ⊎ ((e ≡ OutOfBounds end len) × (start ≤ end) × (len < end)))
