use Rattle.vx_ends.proofs.Steps.{consumes_more}
use Rattle.vx_ends.proofs.reading.read_all.Goals as goal

pub returns-then-count-limit-clause-front : goal.returns-then-count-limit-clause-front
returns-then-count-limit-clause-front g c =
    (_, consumes_more _ _ _ _ _ c.turns.invariant.0 c.in-Ok-read.ensures.bytes.0)

pub returns-then-is_err-clause-front : goal.returns-then-is_err-clause-front
returns-then-is_err-clause-front g c =
    (_, consumes_more _ _ _ _ _ c.turns.invariant.0 c.in-Ok-read.ensures.bytes.0)
