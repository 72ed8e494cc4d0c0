use Rattle.std.proofs.Common.{◌≡◌, take}
use Rattle.vx_lookup.specs.Bits.{bits_where}
use Rattle.vx_lookup.proofs.membership.joined.Given as goal

abbrev pub invariant-loop-i : goal.invariant-loop-i
invariant-loop-i l = l.all.items ≡ bits_where (take l.i l.bits) (take l.i l.present)
