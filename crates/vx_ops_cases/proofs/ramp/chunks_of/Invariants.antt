use Rattle.std.specs.List.{All}
use Rattle.vx_column.specs.Columns.{IsSound}
use Rattle.vx_ops_cases.proofs.ramp.chunks_of.Given as goal

abbrev pub invariant-loop-k : goal.invariant-loop-k
invariant-loop-k l = All IsSound l.columns.items
