use Rattle.std.proofs.Common.{take}
use Rattle.std.specs.List.{All}
use Rattle.vx_column.specs.Columns.{IsOf}
use Rattle.vx_column.proofs.chunked.all_of.Given as goal

abbrev pub invariant-loop-column : goal.invariant-loop-column
invariant-loop-column l = All (IsOf l.dtype) (take l.column-index l.columns)
