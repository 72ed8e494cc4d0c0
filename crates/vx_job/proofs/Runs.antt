-- A plan reaches its end in one way, or stops.
use Rattle.std.proofs.Common.{◌≡◌, ◌⊎◌, inl, inr, ℕ, ◌+◌, List, [], ◌∷◌, ◌++◌, refl, sym, ◌∙◌, ap}
use Rattle.vx_rows.specs.declared.error.ColumnError.{ColumnError}
use Rattle.vx_base.specs.Column.{Flat}
use Rattle.vx_job.specs.declared.page.Answer.{Answer}
use Rattle.vx_job.specs.declared.step.Step.{Step}
use Rattle.vx_job.specs.Steps.{IsFree, step_leaves, step_answers}
use Rattle.vx_job.specs.Plans.{RunsTo, StopsWith}
use Rattle.vx_job.specs.Laws.{HasError, IsRun, IsStopped}
use Rattle.vx_job.proofs.StepErrors.{step_judged}

pub judged : (sources : List Flat) (number : ℕ) (c : Flat) (plan : List Step) → IsRun sources number c plan ⊎ IsStopped sources number c plan
judged sources number c [] = inl ([], c, (refl, refl))
judged sources number c (step ∷ plan) = by (step_judged sources number c step) (judged sources (number + 1) (step_leaves sources c step) plan)
  where
    by : IsFree sources number c step ⊎ HasError sources number c step
        → IsRun sources (number + 1) (step_leaves sources c step) plan ⊎ IsStopped sources (number + 1) (step_leaves sources c step) plan
        → IsRun sources number c (step ∷ plan) ⊎ IsStopped sources number c (step ∷ plan)
    by (inr (e, other, error)) rest = inr (e, other, inl error)
    by (inl free) (inl (answers, last, run)) = inl (step_answers sources c step ++ answers, last, (free, (answers, refl, run)))
    by (inl free) (inr (e, other, stop)) = inr (e, other, inr (free, stop))

pub runs_freely : (sources : List Flat) (number : ℕ) (c : Flat) (plan : List Step) (answers : List Answer) (last : Flat) (e : ColumnError)
    → RunsTo sources number c plan answers last → StopsWith sources number c plan e → ⊥
runs_freely sources number c [] answers last e run stop = stop
runs_freely sources number c (step ∷ plan) answers last e run (inl error) = run.0 e error
runs_freely sources number c (step ∷ plan) answers last e (free, (rest, same, run)) (inr (also, stop)) =
    runs_freely sources (number + 1) (step_leaves sources c step) plan rest last e run stop

pub once : (sources : List Flat) (number : ℕ) (c : Flat) (plan : List Step) (answers others : List Answer) (last other : Flat)
    → RunsTo sources number c plan answers last → RunsTo sources number c plan others other → (others ≡ answers) × (other ≡ last)
once sources number c [] answers others last other run again = (again.0 ∙ sym run.0, again.1 ∙ sym run.1)
once sources number c (step ∷ plan) answers others last other (free, (rest, same, run)) (also, (more, alike, again)) =
    let it = once sources (number + 1) (step_leaves sources c step) plan rest more last other run again in
    (alike ∙ ap (λ (xs : List Answer). step_answers sources c step ++ xs) it.0 ∙ sym same, it.1)
