use Rattle.std.specs.List.{All}
use Rattle.vx_column.specs.Columns.{IsSound}
use Rattle.vx_metadata_cases.proofs.reading.columns.Given as goal

abbrev pub invariant-loop-value : goal.invariant-loop-value
invariant-loop-value l = All IsSound l.made.items
