use Rattle.std.proofs.Common.{◌≡◌, take}
use Rattle.vx_select.specs.Causes.{run_places}
use Rattle.vx_select.proofs.places.places_of_runs.Given as goal

abbrev pub invariant-loop-run : goal.invariant-loop-run
invariant-loop-run l = l.places.items ≡ run_places (take l.run-index l.runs)
