use Rattle.std.proofs.Common.{◌≡◌, take}
use Rattle.vx_masks.specs.Bits.{places_of}
use Rattle.vx_masks.proofs.bits.places.Given as goal

-- the places so far
abbrev pub invariant-loop-i : goal.invariant-loop-i
invariant-loop-i l = l.places.items ≡ places_of (take l.i l.bits)
