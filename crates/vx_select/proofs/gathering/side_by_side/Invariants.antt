use Rattle.std.proofs.Common.{◌≡◌, ◌-◌, ◌<◌, ◌≤◌, take, length, slice_index}
use Rattle.std.specs.List.{range_with_len}
use Rattle.vx_select.proofs.gathering.side_by_side.Given as goal

abbrev pub invariant-loop-count : goal.invariant-loop-count
invariant-loop-count l = record {
  some : 0 < l.count;
  within : l.count ≤ length l.places;
  run : take l.count l.places ≡ range_with_len (slice_index l.places 0) l.count;
}

abbrev pub decreases-loop-count : goal.decreases-loop-count
decreases-loop-count l = length l.places - l.count
