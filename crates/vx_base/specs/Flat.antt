-- How the fields of a flat column stand for its rows.
use Rattle.std.specs.Prelude.{ℕ, ◌-◌, ◌≤◌, ◌<◌, List, length, replicate, Option}
use Rattle.std.specs.List.{slice_range}
use Rattle.vx_rows.specs.declared.value.Value.{Value}
use Rattle.vx_base.specs.declared.flat.Source.{Source}
use Rattle.vx_base.specs.declared.flat.Source.TheVariants.{Rows, Constant}
use Rattle.vx_base.specs.declared.flat.FlatColumn.TheInside.{Inside}
use Rattle.vx_base.specs.Column.{Flat, IsFlat}

abbrev pub rows_of : Source → ℕ → ℕ → List (Option Value)
rows_of (Rows rs) start end = slice_range rs start end
rows_of (Constant r) start end = replicate (end - start) r

abbrev pub IsWindow : Source → ℕ → ℕ → Type 0
IsWindow (Rows rs) start end = (start ≤ end) × (end ≤ length rs)
IsWindow (Constant r) start end = start ≤ end

abbrev pub flat_of : Inside → Flat
flat_of c = record { dtype = c.dtype; rows = rows_of c.source c.start c.end }

abbrev pub IsSound : Inside → Type 0
IsSound c = IsWindow c.source c.start c.end × (c.end < 18446744073709551616) × IsFlat (flat_of c)
