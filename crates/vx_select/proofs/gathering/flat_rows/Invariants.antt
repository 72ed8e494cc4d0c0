use Rattle.std.proofs.Common.{◌≡◌, ◌+◌, ◌-◌, ◌≤◌, take, length}
use Rattle.vx_job.specs.Rows.{picked}
use Rattle.vx_select.proofs.gathering.flat_rows.Given as goal

abbrev pub invariant-loop-done : goal.invariant-loop-done
invariant-loop-done g l = record {
  within : l.done ≤ length l.places;
  taken : l.taken ≡ picked l.rows.rows (take l.done l.places);
  rise : l.steps ≡ l.initial.steps + l.done;
}

abbrev pub decreases-loop-done : goal.decreases-loop-done
decreases-loop-done g l = length l.places - l.done
