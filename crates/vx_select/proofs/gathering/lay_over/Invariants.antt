use Rattle.std.proofs.Common.{◌≡◌, ◌+◌, ◌*◌, ◌≤◌, take, IsTrue}
use Rattle.vx_rows.specs.Fits.{rows_fit}
use Rattle.vx_job.specs.Rows.{picked, lane_reads}
use Rattle.vx_column.specs.Columns.{rows_of, type_of, lanes_of}
use Rattle.vx_column.specs.declared.column.Column.TheVariants as column
use Rattle.vx_select.proofs.gathering.lay_over.Given as goal

abbrev pub invariant-loop-k : goal.invariant-loop-k
invariant-loop-k g l = record {
  laid : l.laid ≡ picked (rows_of (column.Patched l.array)) (take l.k l.places);
  fits : IsTrue (rows_fit (type_of (column.Patched l.array)) l.laid);
  rise : l.steps ≤ l.initial.steps + l.k * lane_reads (lanes_of l.array).n_lanes;
  monotone : l.initial.steps ≤ l.steps;
}
