use Rattle.std.proofs.Common.{◌≡◌, ◌+◌, take, length, IsTrue}
use Rattle.std.specs.Prelude.{sum_by}
use Rattle.std.specs.List.{flat_map}
use Rattle.vx_rows.specs.Fits.{rows_fit}
use Rattle.vx_bulk.proofs.join.joined_rows.Given as goal

abbrev pub invariant-loop-column : goal.invariant-loop-column
invariant-loop-column g l = record {
  rows : l.rows ≡ flat_map (λ column. column.rows) (take l.column-index l.columns);
  fits : IsTrue (rows_fit l.dtype l.rows);
  cost : l.steps ≡ l.fn.steps + sum_by (λ column. length column.rows) (take l.column-index l.columns);
}
