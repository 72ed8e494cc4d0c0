use Rattle.std.proofs.Common.{◌≡◌, ◌+◌, map}
use Rattle.vx_lanes.specs.Rules.{any_below}
use Rattle.vx_column.specs.Columns.{len_of}
use Rattle.vx_metadata.specs.Boundaries.{bound_at, off_span}
use Rattle.vx_metadata.proofs.boundaries.walk.Given as goal

abbrev pub invariant-loop-k : goal.invariant-loop-k
invariant-loop-k g l = record {
  end : l.end ≡ bound_at l.chunk_offsets l.k;
  off : l.off_span ≡ any_below (off_span l.chunk_offsets (map len_of l.chunks)) l.k;
  cost : l.steps ≡ l.fn.steps + l.k;
}
