use Rattle.vx_job.proofs.Faults.{judged, no_fault, one_fault}
use Rattle.vx_job.proofs.laws.fault_laws.Goals as goal

pub returns-clause-judged : goal.returns-clause-judged
returns-clause-judged c = judged

pub returns-clause-not_both : goal.returns-clause-not_both
returns-clause-not_both c part fault clean = no_fault fault.0 fault.1 part fault.2 clean

pub returns-clause-one : goal.returns-clause-one
returns-clause-one c = one_fault
