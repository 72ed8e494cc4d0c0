use Rattle.std.proofs.Common.{◌≡◌, ◌<◌, ◌||◌, ℕ, false, length, get_or}
use Rattle.vx_masks.specs.Bits.{is_within}
use Rattle.vx_masks.proofs.bits.set_range.Given as goal

-- the bits from the start to here are true, and the others as they were
abbrev pub invariant-loop-i : goal.invariant-loop-i
invariant-loop-i l = (k : ℕ) → k < length l.fn.bits → get_or l.bits k false ≡ (get_or l.fn.bits k false || is_within k (l.start, l.i))
