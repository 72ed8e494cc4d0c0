use Rattle.vx_job.proofs.Runs.{judged, runs_freely, once}
use Rattle.vx_job.proofs.laws.run_laws.Goals as goal

pub returns-clause-judged : goal.returns-clause-judged
returns-clause-judged c = judged

pub returns-clause-not_both : goal.returns-clause-not_both
returns-clause-not_both c sources number first plan run stop = runs_freely sources number first plan run.0 run.1 stop.0 run.2 stop.2

pub returns-clause-once : goal.returns-clause-once
returns-clause-once c = once
