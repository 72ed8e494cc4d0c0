use Rattle.std.proofs.Common.{◌≤◌, [], take}
use Rattle.vx_scalars.specs.Elementwise.{filled, filled_type}
use Rattle.vx_column.specs.Columns.{type_of}
use Rattle.vx_column.specs.declared.column.Column.TheVariants as column
use Rattle.vx_ops.specs.Chunks.{HasGained, rows_in}
use Rattle.vx_ops.proofs.filling.filled_chunks.Given as goal

abbrev pub invariant-loop-chunk : goal.invariant-loop-chunk
invariant-loop-chunk g l = record {
  gained : HasGained (filled_type (type_of (column.Chunked l.array))) (filled l.value.row (rows_in (take l.chunk-index l.chunk-items))) [] l.filled.items;
  monotone : l.fn.steps ≤ l.steps;
}
