use Rattle.std.proofs.Common.{◌≡◌, drop, map}
use Rattle.vx_job.specs.Kinds.{some_nullable}
use Rattle.vx_column.specs.Columns.{type_of}
use Rattle.vx_column.proofs.kinds.some_nullability.Given as goal

abbrev pub invariant-loop-column : goal.invariant-loop-column
invariant-loop-column l = some_nullable (map type_of l.columns) ≡ some_nullable (map type_of (drop l.column-index l.columns))
