use Rattle.std.proofs.Common.{◌≡◌, ◌+◌, ◌*◌, ◌≤◌, take}
use Rattle.vx_column.specs.Columns.{rows_of, len_of, IsPlain, point_cost}
use Rattle.vx_probe.specs.Probes.{probed}
use Rattle.vx_job.specs.Rows.{picked}
use Rattle.vx_job.specs.Steps.{AreInside}
use Rattle.vx_plan.proofs.run.read_points.Given as goal

abbrev pub invariant-loop-number : goal.invariant-loop-number
invariant-loop-number g l = record {
  reads : probed l.probe ≡ probed l.initial.probe;
  answer : l.rows ≡ picked (rows_of (probed l.initial.probe)) (take l.number-index l.numbers);
  inside : AreInside (len_of (probed l.initial.probe)) (take l.number-index l.numbers);
  rise : IsPlain (probed l.initial.probe) → l.steps ≤ l.initial.steps + l.number-index * point_cost (probed l.initial.probe);
  monotone : l.initial.steps ≤ l.steps;
}
