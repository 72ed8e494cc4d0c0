use Rattle.std.proofs.Common.{arith}
use Rattle.vx_chunk_plans.proofs.filter.step.Goals as goal

pub returns-clause-within : goal.returns-clause-within
returns-clause-within c = λ n h old. c.in_ok-close.ensures.within n (omega arith) old
