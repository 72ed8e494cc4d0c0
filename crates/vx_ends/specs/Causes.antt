-- Faults are counted, and an answer of a fault comes only where the count rose.
use Rattle.std.specs.Prelude.{◌≡◌, ℕ, ◌+◌, ◌-◌, ◌^◌, ◌≤◌, min, List, Err, OnErr, is_some}
use Rattle.std.specs.declared.option.Option.{Option}
use Rattle.std.specs.declared.result.Result.{Result}

-- The count rose, or it is the greatest `u64`, at which it saturates.
abbrev pub Rose : ℕ → ℕ → Type 0
Rose before now = min (before + 1) (2 ^ 64 - 1) ≤ now

-- The count is monotone, and it rose where the call failed.
pub record HasCause {T E : Type 0} (before now : ℕ) (result : Result T E) : Type 0 where
  pub monotone : before ≤ now
  pub failed : OnErr result (Rose before now)

-- The count is monotone, and it rose where the call answered this error.
pub record HasCauseAt {T E : Type 0} (before now : ℕ) (result : Result T E) (error : E) : Type 0 where
  pub monotone : before ≤ now
  pub failed : result ≡ Err error → Rose before now

-- An end tells its bytes after the call exactly where it did before.
abbrev pub TellsAsBefore : Option (List ℕ) → Option (List ℕ) → Type 0
TellsAsBefore old new = is_some new ≡ is_some old
