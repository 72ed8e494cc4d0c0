-- What a column that is opened from a part keeps of it.
use Rattle.std.specs.Prelude.{◌≡◌, List, [], ◌∷◌}
use Rattle.vx_job.specs.declared.part.Part.{Part}
use Rattle.vx_job.specs.Parts.{part_type, part_rows, part_point_cost, part_cut_cost, part_lane_cost, IsClean}
use Rattle.vx_column.specs.declared.column.Column.{Column}
use Rattle.vx_column.specs.Columns.{type_of, rows_of, IsSound, point_cost, cut_cost, lane_cost, IsPlain}

-- the column is the part's
pub record IsOpened (part : Part) (column : Column) : Type 0 where
  pub clean : IsClean part
  pub sound : IsSound column
  pub dtype : type_of column ≡ part_type part
  pub rows : rows_of column ≡ part_rows part
  pub point : point_cost column ≡ part_point_cost part
  pub cut : cut_cost column ≡ part_cut_cost part
  pub lanes : lane_cost column ≡ part_lane_cost part
  pub plain : IsPlain column

-- each column is that of its part
abbrev pub AreOpened : List Part → List Column → Type 0
AreOpened [] [] = Unit {0}
AreOpened [] (column ∷ columns) = ⊥
AreOpened (part ∷ parts) [] = ⊥
AreOpened (part ∷ parts) (column ∷ columns) = IsOpened part column × AreOpened parts columns

-- there are parts, each column is that of its part, and this one is that of the first
abbrev pub IsFirst : List Part → List Column → Column → Type 0
IsFirst [] columns first = ⊥
IsFirst (part ∷ parts) columns first = AreOpened (part ∷ parts) columns × IsOpened part first
