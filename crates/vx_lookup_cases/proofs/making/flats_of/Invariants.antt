use Rattle.std.specs.List.{All}
use Rattle.vx_column.specs.Columns.{IsSound}
use Rattle.vx_lookup_cases.proofs.making.flats_of.Given as goal

abbrev pub invariant-loop-value : goal.invariant-loop-value
invariant-loop-value l = All IsSound l.columns.items
