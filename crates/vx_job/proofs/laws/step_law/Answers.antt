use Rattle.vx_job.proofs.StepErrors.{step_judged}
use Rattle.vx_job.proofs.laws.step_law.Goals as goal

pub returns : goal.returns
returns c = step_judged
