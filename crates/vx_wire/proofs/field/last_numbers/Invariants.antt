use Rattle.std.proofs.Common.{length}
use Rattle.vx_wire.proofs.FieldLemmas.{Collected}
use Rattle.vx_wire.proofs.field.last_numbers.Given as goal

abbrev pub invariant-loop-rest : goal.invariant-loop-rest
invariant-loop-rest l = Collected l.known l.bytes l.last l.rest

abbrev pub decreases-loop-rest : goal.decreases-loop-rest
decreases-loop-rest l = length l.rest
