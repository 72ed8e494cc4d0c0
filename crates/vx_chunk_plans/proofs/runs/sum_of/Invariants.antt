use Rattle.std.proofs.Common.{◌≡◌, take}
use Rattle.vx_chunk_plans.specs.Runs.{run_total}
use Rattle.vx_chunk_plans.proofs.runs.sum_of.Given as goal

abbrev pub invariant-loop-run : goal.invariant-loop-run
invariant-loop-run l = l.sum ≡ run_total (take l.run-index l.runs)
