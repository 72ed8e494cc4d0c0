-- Laws of functions of single rows.
use Rattle.std.specs.Prelude.{◌≡◌, List, map, Option}
use Rattle.vx_rows.specs.declared.value.Value.{Value}
use Rattle.vx_job.specs.Rows.{Rows, joined}

-- what a function gives for the rows of each list, joined, is what it gives for the joined rows
abbrev pub PushesThrough : Type 0
PushesThrough = (g : Option Value → Option Value) (lists : List Rows) → joined (map (map g) lists) ≡ map g (joined lists)
