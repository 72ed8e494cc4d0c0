use Rattle.std.proofs.Common.{◌≡◌, drop}
use Rattle.vx_interleave_gather.specs.Gathered.{some_nullable, types_of}
use Rattle.vx_interleave_gather.proofs.columns.some_nullability.Given as goal

abbrev pub invariant-loop-value : goal.invariant-loop-value
invariant-loop-value l = some_nullable (types_of l.values) ≡ some_nullable (types_of (drop l.value-index l.values))
