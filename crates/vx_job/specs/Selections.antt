-- Why a selection of rows is refused.
use Rattle.std.specs.Prelude.{◌≡◌, ◌≢◌, ◌⊎◌, ◌+◌, ◌-◌, ◌^◌, ◌<◌, ◌≤◌, min, ℕ, List, Option, Some, None, sum_by}
use Rattle.std.specs.List.{Contains}
use Rattle.vx_rows.specs.declared.error.ColumnError.{ColumnError}
use Rattle.vx_rows.specs.declared.error.ColumnError.TheVariants.{LengthMismatch, OutOfBounds}

-- a list of so many isn't as long as the rows
abbrev pub IsLengthError : ℕ → ℕ → ColumnError → Type 0
IsLengthError len found e = (e ≡ LengthMismatch len found) × (found ≢ len)

-- the index is past the end
abbrev pub IsBeyond : ℕ → Option ℕ → ColumnError → Type 0
IsBeyond len None e = ⊥
IsBeyond len (Some index) e = (e ≡ OutOfBounds index len) × (len ≤ index)

-- one of the indices is past the end
abbrev pub IsTakeError : ℕ → List (Option ℕ) → ColumnError → Type 0
IsTakeError len indices e = (index : Option ℕ) × (Contains indices index × IsBeyond len index e)

-- the rows of runs, each of a start and a length, counted together
abbrev pub run_total : List (ℕ × ℕ) → ℕ
run_total runs = sum_by (λ run. run.1) runs

-- the run has a last row, which is past the end; a number past the greatest is told as that
abbrev pub IsRunBeyond : ℕ → ℕ × ℕ → ColumnError → Type 0
IsRunBeyond len run e = (0 < run.1) × (len < run.0 + run.1) × (e ≡ OutOfBounds (min (run.0 + (run.1 - 1)) (2 ^ 64 - 1)) len)

-- another sum of lengths than was declared, or one of the runs is past the end
abbrev pub IsRunsError : ℕ → ℕ → List (ℕ × ℕ) → ColumnError → Type 0
IsRunsError len declared runs e =
    ((e ≡ LengthMismatch declared (min (run_total runs) (2 ^ 64 - 1))) × (run_total runs ≢ declared))
    ⊎ ((run : ℕ × ℕ) × (Contains runs run × IsRunBeyond len run e))
