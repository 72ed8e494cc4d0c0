use Rattle.std.proofs.Common.{◌≡◌, take}
use Rattle.vx_masks.specs.Validities.{joined_bits}
use Rattle.vx_masks.proofs.validity.joined_bits.Given as goal

-- the bits of the entries so far
abbrev pub invariant-loop-validity : goal.invariant-loop-validity
invariant-loop-validity l = l.bits ≡ joined_bits (take l.validity-index l.list)
