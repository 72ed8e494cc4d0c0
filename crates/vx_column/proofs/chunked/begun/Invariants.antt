use Rattle.std.proofs.Common.{◌≡◌, ◌∷◌, take}
use Rattle.vx_column.proofs.chunked.begun.Given as goal

abbrev pub invariant-loop-column : goal.invariant-loop-column
invariant-loop-column l = l.columns.items ≡ l.fn.front ∷ take l.column-index l.middle
