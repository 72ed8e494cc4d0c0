-- What ties the errors that are true of steps, plans and parts to those that meet their rules.
use Rattle.std.specs.Prelude.{◌≡◌, ◌≢◌, ◌⊎◌, ℕ, List}
use Rattle.vx_rows.specs.declared.error.ColumnError.{ColumnError}
use Rattle.vx_rows.specs.declared.error.ColumnError.TheVariants.{OutOfMemory}
use Rattle.vx_base.specs.Column.{Flat}
use Rattle.vx_job.specs.declared.page.Answer.{Answer}
use Rattle.vx_job.specs.declared.part.Part.{Part}
use Rattle.vx_job.specs.declared.step.Step.{Step}
use Rattle.vx_job.specs.Faults.{Fault}
use Rattle.vx_job.specs.Parts.{IsClean, FaultAt}
use Rattle.vx_job.specs.Steps.{IsStepError, IsFree}
use Rattle.vx_job.specs.Plans.{RunsTo, StopsWith}

-- some error is true of the step, which is not running out of memory
abbrev pub HasError : List Flat → ℕ → Flat → Step → Type 0
HasError sources number c step = (e : ColumnError) × (e ≢ OutOfMemory) × IsStepError sources number c step e

-- a step is free, or some error is true of it
abbrev pub FreeOrError : Type 0
FreeOrError = (sources : List Flat) (number : ℕ) (c : Flat) (step : Step) → IsFree sources number c step ⊎ HasError sources number c step

-- the plan reaches its end
abbrev pub IsRun : List Flat → ℕ → Flat → List Step → Type 0
IsRun sources number c plan = (answers : List Answer) × (last : Flat) × RunsTo sources number c plan answers last

-- the plan stops at a step
abbrev pub IsStopped : List Flat → ℕ → Flat → List Step → Type 0
IsStopped sources number c plan = (e : ColumnError) × (e ≢ OutOfMemory) × StopsWith sources number c plan e

-- a plan reaches its end or stops, and none does both
abbrev pub RunsOrStops : Type 0
RunsOrStops = (sources : List Flat) (number : ℕ) (c : Flat) (plan : List Step) → IsRun sources number c plan ⊎ IsStopped sources number c plan

abbrev pub NotRunAndStopped : Type 0
NotRunAndStopped = (sources : List Flat) (number : ℕ) (c : Flat) (plan : List Step) → IsRun sources number c plan → IsStopped sources number c plan → ⊥

-- the answers and the last type and rows of a run are its only ones
abbrev pub RunsOnce : Type 0
RunsOnce =
    (sources : List Flat) (number : ℕ) (c : Flat) (plan : List Step) (answers others : List Answer) (last other : Flat)
    → RunsTo sources number c plan answers last → RunsTo sources number c plan others other → (others ≡ answers) × (other ≡ last)

-- the part has a first fault
abbrev pub IsFaulty : Part → Type 0
IsFaulty part = (path : List ℕ) × (fault : Fault) × FaultAt path fault part

-- each part has what its rules ask for, or has a first fault, and none does both
abbrev pub CleanOrFaulty : Type 0
CleanOrFaulty = (part : Part) → IsClean part ⊎ IsFaulty part

abbrev pub NotBoth : Type 0
NotBoth = (part : Part) → IsFaulty part → IsClean part → ⊥

-- a first fault is the only one
abbrev pub OneFault : Type 0
OneFault =
    (part : Part) (path other : List ℕ) (fault another : Fault) → FaultAt path fault part → FaultAt other another part
    → (other ≡ path) × (another ≡ fault)
