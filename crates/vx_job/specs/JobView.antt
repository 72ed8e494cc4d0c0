-- What a job shows: parts, and a plan.
use Rattle.std.specs.Prelude.{List}
use Rattle.vx_job.specs.declared.job.Job.{Job}
use Rattle.vx_job.specs.declared.part.Part.{Part}
use Rattle.vx_job.specs.declared.step.Step.{Step}

-- parts, and the plan for the column that the first of them is
pub record JobView : Type 0 where
  pub parts : List Part
  pub plan : List Step

abbrev pub job_view : Job → JobView
job_view job = record { parts = job.parts.items; plan = job.plan.items }
