use Rattle.std.proofs.Common.{◌≡◌, drop, map}
use Rattle.vx_job.specs.Faults.{all_bool_or_integer}
use Rattle.vx_column.specs.Columns.{type_of}
use Rattle.vx_column.proofs.kinds.are_bools_or_integers.Given as goal

abbrev pub invariant-loop-column : goal.invariant-loop-column
invariant-loop-column l = all_bool_or_integer (map type_of l.columns) ≡ all_bool_or_integer (map type_of (drop l.column-index l.columns))
