use Rattle.std.proofs.Common.{◌≡◌, ◌≤◌, map, take, length}
use Rattle.std.specs.List.{All}
use Rattle.vx_scalars.specs.Elementwise.{chosen, chosen_type}
use Rattle.vx_job.specs.Rows.{joined}
use Rattle.vx_column.specs.Columns.{IsSound, IsOf, rows_of, type_of, len_of, chunks_of}
use Rattle.vx_column.specs.declared.column.Column.TheVariants as column
use Rattle.vx_pairs.specs.Pairs.{IsPair, Cover}
use Rattle.vx_pairs.proofs.Zips.{begins}
use Rattle.vx_pairs.proofs.zipped.zipped_pairs.Given as goal

abbrev pub invariant-loop-chunks : goal.invariant-loop-chunks
invariant-loop-chunks g l = record {
  left_is : l.pairs.left ≡ column.Chunked l.left;
  right_is : l.pairs.right ≡ column.Chunked l.right;
  each : All (IsPair (map len_of (chunks_of l.left)) (map len_of (chunks_of l.right))) l.pairs.ranges;
  cover : Cover (begins (len_of (column.Chunked l.left)) l.pairs.ranges) (len_of (column.Chunked l.left)) l.pairs.ranges;
  rows : joined (map rows_of l.chunks.items) ≡ take (begins (len_of (column.Chunked l.left)) l.pairs.ranges)
      (chosen (rows_of (column.Chunked l.left)) (rows_of (column.Chunked l.right)) l.choice);
  sound : All IsSound l.chunks.items;
  types : All (IsOf (chosen_type (type_of (column.Chunked l.left)) (type_of (column.Chunked l.right)))) l.chunks.items;
  monotone : l.initial.steps ≤ l.steps;
}

abbrev pub decreases-loop-chunks : goal.decreases-loop-chunks
decreases-loop-chunks g l = length l.pairs.ranges
