use Rattle.std.proofs.Common.{◌≡◌, drop}
use Rattle.vx_chunk_plans.specs.Takes.{never_falls}
use Rattle.vx_chunk_plans.proofs.take.never_falls.Given as goal

abbrev pub invariant-loop-at : goal.invariant-loop-at
invariant-loop-at l = never_falls 0 l.indices ≡ never_falls l.last (drop l.at-index l.indices)
