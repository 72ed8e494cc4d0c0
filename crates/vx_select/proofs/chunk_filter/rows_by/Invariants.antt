use Rattle.std.proofs.Common.{◌≡◌, ◌+◌, ◌≤◌, IsTrue}
use Rattle.vx_rows.specs.Fits.{rows_fit}
use Rattle.vx_job.specs.Rows.{picked}
use Rattle.vx_column.specs.Columns.{rows_of, type_of}
use Rattle.vx_column.specs.declared.column.Column.TheVariants as column
use Rattle.vx_select.proofs.Filtered.{kept_before, bound_before}
use Rattle.vx_select.proofs.chunk_filter.rows_by.Given as goal

abbrev pub invariant-loop-k : goal.invariant-loop-k
invariant-loop-k g l = record {
  rows : l.rows ≡ picked (rows_of (column.Chunked l.array)) (kept_before l.array l.filters l.k);
  fits : IsTrue (rows_fit (type_of (column.Chunked l.array)) l.rows);
  rise : l.steps ≤ l.initial.steps + bound_before l.array l.filters l.k;
  monotone : l.initial.steps ≤ l.steps;
}
