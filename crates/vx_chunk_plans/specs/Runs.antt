-- Rows of chunks that runs name, each run of a start and a length.
use Rattle.std.specs.Prelude.{ℕ, ◌+◌, ◌-◌, ◌^◌, ◌<◌, ◌≤◌, ◌≡◌, ◌≢◌, ◌⊎◌, min, nat_lt, length, List, All, Contains, sum_by, take, get_or, Bool, Option, Some, None}
use Rattle.std.specs.List.{flat_map, range_with_len, slice_range}
use Rattle.vx_rows.specs.declared.error.ColumnError.{ColumnError}
use Rattle.vx_rows.specs.declared.error.ColumnError.TheVariants.{OutOfMemory, OutOfBounds, LengthMismatch}
use Rattle.vx_chunks.specs.Bounds.{total}
use Rattle.vx_chunk_plans.specs.Laid.{laid_from}

-- the numbers of the rows of runs, one behind the other: a run of length 0 has none, whatever its start
abbrev pub run_rows : List (ℕ × ℕ) → List ℕ
run_rows runs = flat_map (λ run. range_with_len run.0 run.1) runs

-- the numbers of the rows of runs by chunk, in chunks of these lengths, end to end
abbrev pub piece_rows : List ℕ → List (List (ℕ × ℕ)) → List ℕ
piece_rows lens pieces = laid_from (λ n runs. run_rows runs) 0 lens pieces

-- the rows in order: those of the order's runs of them. Without an order the rows are the answers
abbrev pub in_runs : List ℕ → Option (List (ℕ × ℕ)) → List ℕ
in_runs rows None = rows
in_runs rows (Some order) = flat_map (λ run. slice_range rows run.0 (run.0 + run.1)) order

-- the order's runs end at the length or before
abbrev pub OrdersWithin : ℕ → Option (List (ℕ × ℕ)) → Type 0
OrdersWithin len None = Unit {0}
OrdersWithin len (Some order) = All (λ run. run.0 + run.1 ≤ len) order

-- runs of n rows, none of them empty
abbrev pub IsRunOf : ℕ → ℕ × ℕ → Type 0
IsRunOf n run = (0 < run.1) × (run.0 + run.1 ≤ n)

abbrev pub AreRunsOf : ℕ → List (ℕ × ℕ) → Type 0
AreRunsOf n runs = All (IsRunOf n) runs

-- the sum of the lengths
abbrev pub run_total : List (ℕ × ℕ) → ℕ
run_total runs = sum_by (λ run. run.1) runs

-- whether a run has a row
abbrev pub has_rows : ℕ × ℕ → Bool
has_rows run = nat_lt 0 run.1

-- a run that isn't empty ends at the length or before
abbrev pub IsInside : ℕ → ℕ × ℕ → Type 0
IsInside len run = 0 < run.1 → run.0 + run.1 ≤ len

-- a run that isn't empty ends behind the length: its last row, held at the greatest number, is told
abbrev pub RunCause : ℕ → ℕ × ℕ → ColumnError → Type 0
RunCause len run e = (0 < run.1) × (len < run.0 + run.1) × (e ≡ OutOfBounds (min (run.0 + (run.1 - 1)) (2 ^ 64 - 1)) len)

-- the sum of the lengths isn't the declared one: it is told, held at the greatest number
abbrev pub SumCause : ℕ → List (ℕ × ℕ) → ColumnError → Type 0
SumCause declared runs e = (run_total runs ≢ declared) × (e ≡ LengthMismatch declared (min (run_total runs) (2 ^ 64 - 1)))

-- memory is wanted, the sum isn't the declared one, or some run ends behind the length
abbrev pub RunsCause : ℕ → ℕ → List (ℕ × ℕ) → ColumnError → Type 0
RunsCause len declared runs e = (e ≡ OutOfMemory) ⊎ (SumCause declared runs e ⊎ ((run : ℕ × ℕ) × (Contains runs run × RunCause len run e)))

-- the rows of a part: the number of its chunk, and a run there
abbrev pub part_row : List ℕ → ℕ × (ℕ × ℕ) → List ℕ
part_row lens part = range_with_len (total (take part.0 lens) + part.1.0) part.1.1

-- there is such a chunk, and it has the run
abbrev pub IsPartOf : List ℕ → ℕ × (ℕ × ℕ) → Type 0
IsPartOf lens part = (part.0 < length lens) × IsRunOf (get_or lens part.0 0) part.1
