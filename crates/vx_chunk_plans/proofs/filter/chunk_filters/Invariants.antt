use Rattle.std.proofs.Common.{◌≡◌, take}
use Rattle.std.specs.List.{All, AllZip}
use Rattle.vx_masks.specs.Bits.{places_of}
use Rattle.vx_masks.specs.Masks.{bits_of}
use Rattle.vx_chunks.specs.Bounds.{total}
use Rattle.vx_chunk_plans.specs.Filters.{kept_rows, keeps_most, KeepsWithin, IsSuited}
use Rattle.vx_chunk_plans.proofs.filter.chunk_filters.Given as goal

-- the filters of the chunks so far
abbrev pub invariant-loop-chunk : goal.invariant-loop-chunk
invariant-loop-chunk l = record {
  start : l.start ≡ total (take l.chunk l.boundaries);
  rows : kept_rows (take l.chunk l.boundaries) l.filters.items ≡ places_of (take l.start (bits_of l.mask));
  within : AllZip KeepsWithin (take l.chunk l.boundaries) l.filters.items;
  suited : All (IsSuited (keeps_most (bits_of l.mask))) l.filters.items;
}
