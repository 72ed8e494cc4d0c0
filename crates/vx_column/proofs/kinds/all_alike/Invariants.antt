use Rattle.std.proofs.Common.{take}
use Rattle.std.specs.List.{All}
use Rattle.vx_rows.specs.Types.{AlikeTypes}
use Rattle.vx_column.specs.Columns.{type_of}
use Rattle.vx_column.proofs.kinds.all_alike.Given as goal

abbrev pub invariant-loop-column : goal.invariant-loop-column
invariant-loop-column l = All (λ x. AlikeTypes (type_of x) l.dtype) (take l.column-index l.columns)
