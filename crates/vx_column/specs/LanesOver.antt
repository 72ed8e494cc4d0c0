-- A column of lanes, by its parts.
use Rattle.std.specs.Prelude.{◌≡◌}
use Rattle.vx_lanes.specs.declared.layout.Layout.{Layout}
use Rattle.vx_column.specs.declared.patched.Patched.{Patched}
use Rattle.vx_column.specs.declared.column.Column.{Column}
use Rattle.vx_column.specs.declared.column.Column.TheVariants as column
use Rattle.vx_column.specs.Columns.{IsSound}

-- the column is lanes over this one
pub record IsPatchedOf (inner : Column) (lanes : Layout) (whole : Column) : Type 0 where
  pub array : Patched Column
  pub is : whole ≡ column.Patched array
  pub inner_is : array.inner ≡ inner
  pub lanes_is : array.lanes ≡ lanes
  pub sound : IsSound whole
