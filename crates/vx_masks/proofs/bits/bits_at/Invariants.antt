use Rattle.std.proofs.Common.{eqb, take}
use Rattle.std.specs.List.{list_any}
use Rattle.vx_masks.proofs.Marks.{Marks}
use Rattle.vx_masks.proofs.bits.bits_at.Given as goal

-- the bits of the indices so far
abbrev pub invariant-loop-index : goal.invariant-loop-index
invariant-loop-index l = Marks (λ k. list_any (eqb k) (take l.index-index l.indices)) l.bits.items l.len
