use Rattle.std.proofs.Common.{take}
use Rattle.std.specs.List.{list_any}
use Rattle.vx_masks.specs.Bits.{is_within}
use Rattle.vx_masks.proofs.Marks.{Marks}
use Rattle.vx_masks.proofs.bits.bits_in.Given as goal

-- the bits of the slices so far
abbrev pub invariant-loop-start : goal.invariant-loop-start
invariant-loop-start l = Marks (λ k. list_any (is_within k) (take l.start-index l.slices)) l.bits.items l.len
