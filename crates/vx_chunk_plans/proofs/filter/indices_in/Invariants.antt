use Rattle.std.proofs.Common.{◌≡◌, ◌<◌, take, drop}
use Rattle.std.specs.List.{All}
use Rattle.vx_masks.specs.Bits.{places_of}
use Rattle.vx_masks.specs.Masks.{bits_of}
use Rattle.vx_chunk_plans.proofs.filter.indices_in.Given as goal

-- the places so far
abbrev pub invariant-loop-i : goal.invariant-loop-i
invariant-loop-i l = record {
  places : l.indices.items ≡ places_of (take l.i (drop l.start (bits_of l.mask)));
  below : All (λ i. i < l.len) l.indices.items;
}
