use Rattle.std.proofs.Common.{take}
use Rattle.vx_column.specs.Columns.{type_of}
use Rattle.vx_column.specs.declared.column.Column.TheVariants as column
use Rattle.vx_ops.specs.Chunks.{HasGained, rows_in}
use Rattle.vx_ops.proofs.chunks.+append_chunks.Given as goal

abbrev pub invariant-append_chunks-loop-chunk : goal.invariant-append_chunks-loop-chunk
invariant-append_chunks-loop-chunk l = HasGained (type_of (column.Chunked l.array)) (rows_in (take l.chunk-index l.chunk-items)) l.initial.out.items l.out.items
