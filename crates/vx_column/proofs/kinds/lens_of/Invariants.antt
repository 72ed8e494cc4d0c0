use Rattle.std.proofs.Common.{◌≡◌, map, take}
use Rattle.vx_column.specs.Columns.{len_of}
use Rattle.vx_column.proofs.kinds.lens_of.Given as goal

abbrev pub invariant-loop-column : goal.invariant-loop-column
invariant-loop-column l = l.lens.items ≡ map len_of (take l.column-index l.columns)
