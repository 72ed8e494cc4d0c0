use Rattle.std.proofs.Common.{◌≡◌, ◌≤◌, ◌-◌, ◌++◌, take, drop}
use Rattle.std.specs.List.{All, range_with_len}
use Rattle.vx_masks.specs.Bits.{places_of}
use Rattle.vx_masks.specs.Masks.{bits_of}
use Rattle.vx_chunk_plans.specs.Filters.{slice_places, IsSliceOf}
use Rattle.vx_chunk_plans.proofs.filter.slices_in.Given as goal

-- the slices so far, and one that is still to be added
abbrev pub invariant-loop-i : goal.invariant-loop-i
invariant-loop-i l = record {
  order : l.from ≤ l.i;
  places : slice_places l.slices.items ++ range_with_len l.from (l.i - l.from) ≡ places_of (take l.i (drop l.start (bits_of l.mask)));
  within : All (IsSliceOf l.len) l.slices.items;
}
