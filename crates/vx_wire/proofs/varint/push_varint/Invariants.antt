use Rattle.std.proofs.Common.{ℕ, ◌≡◌, ◌++◌}
use Rattle.vx_wire.specs.Varints.{varint, groups}
use Rattle.vx_wire.proofs.VarintLemmas.{FitsIn}
use Rattle.vx_wire.proofs.varint.push_varint.Given as goal

abbrev pub invariant-loop-rest : goal.invariant-loop-rest
invariant-loop-rest l = (more : ℕ) × FitsIn more l.rest × (l.out.items ++ groups more l.rest ≡ l.initial.out.items ++ varint l.number)

abbrev pub decreases-loop-rest : goal.decreases-loop-rest
decreases-loop-rest l = l.rest
