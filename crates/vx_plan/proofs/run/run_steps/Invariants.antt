use Rattle.std.proofs.Common.{◌+◌, ◌≤◌, map, take}
use Rattle.std.specs.List.{All}
use Rattle.vx_column.specs.Columns.{type_of, flat_of, IsSound, IsPlain, point_cost, select_bound}
use Rattle.vx_job.specs.Steps.{HasBound}
use Rattle.vx_job.specs.Plans.{plan_cost}
use Rattle.vx_plan.specs.AnswersView.{CostsNoMore}
use Rattle.vx_plan.proofs.Runs.{Continues}
use Rattle.vx_plan.proofs.run.run_steps.Given as goal

abbrev pub invariant-loop-number : goal.invariant-loop-number
invariant-loop-number g l = record {
  told : Continues (map flat_of l.sources) (flat_of l.fn.first) l.plan l.number (flat_of l.column) l.answers.items;
  sound : IsSound l.column;
  costs : All (HasBound (type_of l.fn.first)) l.plan → CostsNoMore l.fn.first l.column;
  rise : All (HasBound (type_of l.fn.first)) l.plan → IsPlain l.fn.first → l.steps ≤ l.initial.steps + plan_cost (point_cost l.fn.first) (select_bound l.fn.first) (take l.number l.plan);
  monotone : l.initial.steps ≤ l.steps;
}
