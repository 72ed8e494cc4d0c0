-- What a plan means: its steps in order, on flat lists of rows.
use Rattle.std.specs.Prelude.{◌≡◌, ◌⊎◌, ℕ, ◌+◌, List, [], ◌∷◌, ◌++◌, map}
use Rattle.std.specs.List.{All}
use Rattle.vx_rows.specs.declared.error.ColumnError.{ColumnError}
use Rattle.vx_base.specs.Column.{Flat}
use Rattle.vx_job.specs.declared.part.Part.{Part}
use Rattle.vx_job.specs.declared.step.Step.{Step}
use Rattle.vx_job.specs.declared.page.Answer.{Answer}
use Rattle.vx_job.specs.Parts.{part_type, part_flat, part_point_cost, part_select_bound, open_cost, IsClean, IsOpenError}
use Rattle.vx_job.specs.Steps.{step_leaves, step_answers, IsStepError, IsFree, HasBound, step_cost}

-- the steps, numbered from a number on, are free one after the other, and give these answers and this last type and rows
abbrev pub RunsTo : List Flat → ℕ → Flat → List Step → List Answer → Flat → Type 0
RunsTo sources number c [] answers last = (answers ≡ []) × (last ≡ c)
RunsTo sources number c (step ∷ plan) answers last =
    IsFree sources number c step
    × ((rest : List Answer) × (answers ≡ step_answers sources c step ++ rest) × RunsTo sources (number + 1) (step_leaves sources c step) plan rest last)

-- the steps before one are free, and the error is true of that one
abbrev pub StopsWith : List Flat → ℕ → Flat → List Step → ColumnError → Type 0
StopsWith sources number c [] e = ⊥
StopsWith sources number c (step ∷ plan) e =
    IsStepError sources number c step e
    ⊎ (IsFree sources number c step × StopsWith sources (number + 1) (step_leaves sources c step) plan e)

-- the types and rows of the parts
abbrev pub sources_of : List Part → List Flat
sources_of parts = map part_flat parts

-- there are parts, none has a fault, and the plan over the first gives these answers and this last type and rows
abbrev pub Reaches : List Part → List Step → List Answer → Flat → Type 0
Reaches [] plan answers last = ⊥
Reaches (part ∷ parts) plan answers last =
    All IsClean (part ∷ parts) × RunsTo (sources_of (part ∷ parts)) 0 (part_flat part) plan answers last

-- no part has a fault, and the plan over the first stops with the error
abbrev pub IsErrorInRun : List Part → List Step → ColumnError → Type 0
IsErrorInRun [] plan e = ⊥
IsErrorInRun (part ∷ parts) plan e =
    All IsClean (part ∷ parts) × StopsWith (sources_of (part ∷ parts)) 0 (part_flat part) plan e

-- the errors that are true of a plan over parts: one of the parts, or else one of the run
abbrev pub IsPlanError : List Part → List Step → ColumnError → Type 0
IsPlanError parts plan e = IsOpenError parts e ⊎ IsErrorInRun parts plan e

-- each step's reads have a bound, over the first part
abbrev pub AreBounded : List Part → List Step → Type 0
AreBounded [] plan = Unit {0}
AreBounded (part ∷ parts) plan = All (HasBound (part_type part)) plan

-- the costs of the steps together
abbrev pub plan_cost : ℕ → (ℕ → ℕ) → List Step → ℕ
plan_cost point select [] = 0
plan_cost point select (step ∷ plan) = step_cost point select step + plan_cost point select plan

-- the most that a plan of bounded steps over parts raises the ledger by
abbrev pub plan_bound : List Part → List Step → ℕ
plan_bound [] plan = 0
plan_bound (part ∷ parts) plan = open_cost (part ∷ parts) + plan_cost (part_point_cost part) (part_select_bound part) plan

-- the most that the n rows which such a plan leaves raise the ledger by when they are read
abbrev pub rows_bound : List Part → ℕ → ℕ
rows_bound [] n = 0
rows_bound (part ∷ parts) n = part_select_bound part n
