-- Columns one behind the other.
use Rattle.std.specs.Prelude.{◌≡◌, ◌++◌, List, map}
use Rattle.std.specs.List.{All}
use Rattle.vx_rows.specs.declared.dtype.DType.{DType}
use Rattle.vx_job.specs.Rows.{Rows, joined}
use Rattle.vx_column.specs.Columns.{IsOf, IsSound, rows_of}
use Rattle.vx_column.specs.declared.column.Column.{Column}

-- the rows of columns, joined
abbrev pub rows_in : List Column → Rows
rows_in columns = joined (map rows_of columns)

-- the list has gained columns of this type, whose rows are these
pub record HasGained (t : DType) (rows : Rows) (old new : List Column) : Type 0 where
  pub sound : All IsSound old → All IsSound new
  pub types : All (IsOf t) old → All (IsOf t) new
  pub gained : rows_in new ≡ rows_in old ++ rows
