use Rattle.std.specs.List.{All}
use Rattle.vx_column.specs.Columns.{IsSound}
use Rattle.vx_select_bench.proofs.columns.interleaved.Given as goal

abbrev pub invariant-loop-first : goal.invariant-loop-first
invariant-loop-first l = All IsSound l.values.items
