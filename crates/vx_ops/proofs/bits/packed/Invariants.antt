use Rattle.std.proofs.Common.{◌≡◌, take}
use Rattle.vx_ops.proofs.bits.packed.Given as goal

abbrev pub invariant-loop-bit : goal.invariant-loop-bit
invariant-loop-bit l = l.truths ≡ take l.bit-index l.bits
