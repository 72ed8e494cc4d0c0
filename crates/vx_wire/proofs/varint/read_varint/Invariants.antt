use Rattle.vx_wire.proofs.VarintLemmas.{Reads}
use Rattle.vx_wire.proofs.varint.read_varint.Given as goal

abbrev pub invariant-loop-i : goal.invariant-loop-i
invariant-loop-i l = Reads l.bytes l.i l.number
