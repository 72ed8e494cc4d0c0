use Rattle.std.proofs.Common.{◌≡◌, ◌≤◌, ◌+◌, ◌-◌, ◌++◌, take, length, get_or}
use Rattle.std.specs.List.{All, flat_map, range_with_len}
use Rattle.vx_chunks.specs.Bounds.{total}
use Rattle.vx_chunk_plans.specs.Runs.{part_row, IsPartOf}
use Rattle.vx_chunk_plans.proofs.runs.cut.Given as goal

-- what was added so far, and what is left
abbrev pub invariant-loop-left : goal.invariant-loop-left
invariant-loop-left l = record {
  place : l.place ≤ get_or l.boundaries l.chunk 0;
  inside : total (take l.chunk l.boundaries) + l.place + l.left ≤ total l.boundaries;
  rows : flat_map (part_row l.boundaries) l.parts.items ++ range_with_len (total (take l.chunk l.boundaries) + l.place) l.left
      ≡ flat_map (part_row l.boundaries) l.fn.parts.items ++ range_with_len (total (take l.fn.chunk l.boundaries) + l.fn.place) l.fn.count;
  there : All (IsPartOf l.boundaries) l.fn.parts.items → All (IsPartOf l.boundaries) l.parts.items;
}

abbrev pub decreases-loop-left : goal.decreases-loop-left
decreases-loop-left l = length l.boundaries - l.chunk
