use Rattle.std.proofs.Common.{◌≡◌, length}
use Rattle.std.specs.List.{All}
use Rattle.vx_column.specs.Columns.{IsSound}
use Rattle.vx_column.specs.Chunks.{filled}
use Rattle.vx_column.proofs.iterators.NonEmptyChunksIterator.next.Given as goal

abbrev pub invariant-loop-first : goal.invariant-loop-first
invariant-loop-first l = record {
  left : filled l.rest ≡ l.fn.self;
  sound : All IsSound l.rest;
}

abbrev pub decreases-loop-first : goal.decreases-loop-first
decreases-loop-first l = length l.rest
