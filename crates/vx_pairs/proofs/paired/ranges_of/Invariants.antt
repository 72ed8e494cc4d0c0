use Rattle.std.proofs.Common.{◌≤◌, ◌-◌, take}
use Rattle.std.specs.List.{All}
use Rattle.vx_chunks.specs.Bounds.{total}
use Rattle.vx_pairs.specs.Pairs.{IsPair, Cover}
use Rattle.vx_pairs.proofs.paired.ranges_of.Given as goal

abbrev pub invariant-loop-row : goal.invariant-loop-row
invariant-loop-row l = record {
  each : All (IsPair l.left l.right) l.ranges.items;
  cover : Cover 0 l.row l.ranges.items;
  within : l.row ≤ total l.left;
  left_from : total (take l.left_chunk l.left) ≤ l.row;
  right_from : total (take l.right_chunk l.right) ≤ l.row;
}

abbrev pub decreases-loop-row : goal.decreases-loop-row
decreases-loop-row l = total l.left - l.row
