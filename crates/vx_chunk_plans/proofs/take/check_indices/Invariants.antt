use Rattle.std.proofs.Common.{take}
use Rattle.std.specs.List.{All}
use Rattle.vx_chunk_plans.specs.Takes.{IsWithin}
use Rattle.vx_chunk_plans.proofs.take.check_indices.Given as goal

abbrev pub invariant-loop-at : goal.invariant-loop-at
invariant-loop-at l = All (IsWithin l.len) (take l.at-index l.indices)
