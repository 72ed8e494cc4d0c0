use Rattle.std.proofs.Common.{◌≤◌, [], take}
use Rattle.vx_scalars.specs.Elementwise.{compared, compared_type}
use Rattle.vx_column.specs.Columns.{type_of}
use Rattle.vx_column.specs.declared.column.Column.TheVariants as column
use Rattle.vx_ops.specs.Chunks.{HasGained, rows_in}
use Rattle.vx_ops.proofs.comparing.compared_chunks.Given as goal

abbrev pub invariant-loop-chunk : goal.invariant-loop-chunk
invariant-loop-chunk g l = record {
  gained : HasGained (compared_type (type_of (column.Chunked l.array)) l.value.dtype) (compared l.op l.value.row (rows_in (take l.chunk-index l.chunk-items))) [] l.compared.items;
  monotone : l.fn.steps ≤ l.steps;
}
