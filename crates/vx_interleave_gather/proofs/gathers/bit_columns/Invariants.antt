use Rattle.std.proofs.Common.{◌≡◌, take}
use Rattle.vx_interleave_gather.proofs.gathers.bit_columns.Given as goal

abbrev pub invariant-loop-value : goal.invariant-loop-value
invariant-loop-value l = l.columns.items ≡ take l.value-index l.values
