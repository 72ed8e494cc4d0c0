-- What a selection of rows of a column gives.
use Rattle.std.specs.Prelude.{◌≡◌, ◌≤◌}
use Rattle.vx_rows.specs.declared.dtype.DType.{DType}
use Rattle.vx_job.specs.Rows.{Rows}
use Rattle.vx_column.specs.Columns.{IsSound, IsPlain, type_of, rows_of, point_cost, cut_cost, lane_cost}
use Rattle.vx_column.specs.declared.column.Column.{Column}

-- the column is of this type and these rows, and costs no more than the whole
pub record IsSelectionOf (whole : Column) (t : DType) (rows : Rows) (part : Column) : Type 0 where
  pub sound : IsSound part
  pub dtype : type_of part ≡ t
  pub is : rows_of part ≡ rows
  pub point : point_cost part ≤ point_cost whole
  pub cut : cut_cost part ≤ cut_cost whole
  pub lanes : lane_cost part ≤ lane_cost whole
  pub plain : IsPlain whole → IsPlain part
