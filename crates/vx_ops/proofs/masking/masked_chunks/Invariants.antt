use Rattle.std.proofs.Common.{◌≡◌, ◌≤◌, [], length, take}
use Rattle.vx_bulk.specs.Selections.{masked}
use Rattle.vx_bulk.specs.Types.{nullable}
use Rattle.vx_column.specs.Columns.{type_of}
use Rattle.vx_column.specs.declared.column.Column.TheVariants as column
use Rattle.vx_ops.specs.Chunks.{HasGained, rows_in}
use Rattle.vx_ops.proofs.masking.masked_chunks.Given as goal

abbrev pub invariant-loop-chunk : goal.invariant-loop-chunk
invariant-loop-chunk g l = record {
  gained : HasGained (nullable (type_of (column.Chunked l.array))) (masked (rows_in (take l.chunk-index l.chunk-items)) l.keep) [] l.masked.items;
  start : l.start ≡ length (rows_in (take l.chunk-index l.chunk-items));
  monotone : l.fn.steps ≤ l.steps;
}
