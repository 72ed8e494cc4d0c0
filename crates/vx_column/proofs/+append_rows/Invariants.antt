use Rattle.std.proofs.Common.{◌≡◌, ◌+◌, ◌*◌, ◌≤◌, ◌++◌, take, length, map}
use Rattle.vx_chunks.specs.Bounds.{total}
use Rattle.vx_column.specs.Columns.{point_cost, lane_cost, IsPlain}
use Rattle.vx_column.specs.declared.column.Column.TheVariants as column
use Rattle.vx_column.proofs.Cuts.{rows_in}
use Rattle.vx_column.proofs.+append_rows.Given as goal

abbrev pub invariant-chunked::Chunked+Column::append_rows-loop-chunk : goal.invariant-chunked::Chunked+Column::append_rows-loop-chunk
invariant-chunked::Chunked+Column::append_rows-loop-chunk g l = record {
  appended : l.out ≡ l.initial.out ++ rows_in (take l.chunk-index l.chunk-items);
  rise : IsPlain (column.Chunked l.self) → l.steps ≤ l.initial.steps + (8 * length (rows_in (take l.chunk-index l.chunk-items)) * point_cost (column.Chunked l.self) + total (map lane_cost (take l.chunk-index l.chunk-items)));
  monotone : l.initial.steps ≤ l.steps;
}
