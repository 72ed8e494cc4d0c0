use Rattle.std.proofs.Common.{◌+◌, List, map, sym, subst, arith}
use Rattle.std.proofs.lemmas.Result.{err_from_is_err_and}
use Rattle.vx_base.specs.Column.{Flat}
use Rattle.vx_column.specs.Columns.{flat_of, IsSound, point_cost, select_bound}
use Rattle.vx_column.specs.declared.column.Column.{Column}
use Rattle.vx_job.specs.declared.page.Answer.{Answer}
use Rattle.vx_job.specs.Plans.{RunsTo}
use Rattle.vx_job.specs.Steps.{step_leaves}
use Rattle.vx_plan.specs.AnswersView.{AnswersView, CostsNoMore}
use Rattle.vx_plan.proofs.Runs.{Continues, continues_first, continues_on, continues_last, continues_stop, bound_at, rise_at, cost_part, costs_same, costs_on}
use Rattle.vx_plan.proofs.run.run_steps.Goals as goal

pub loop-number-init : goal.loop-number-init
loop-number-init g c = record {
  told = subst (Continues (map flat_of c.args.sources.now) (flat_of c.args.first) c.args.plan.now 0 (flat_of c.args.first)) (sym c.new-answers.ensures.items)
      (continues_first (map flat_of c.args.sources.now) (flat_of c.args.first) c.args.plan.now);
  sound = c.requires.sound;
  costs = λ bounded. costs_same c.args.first;
  rise = λ bounded plain. omega arith;
  monotone = omega arith;
}

pub returns-in_err-next-clause-err : goal.returns-in_err-next-clause-err
returns-in_err-next-clause-err g c =
    let at = c.loop-number in
    let p = err_from_is_err_and c.from_residual.result c.from_residual.ensures.1 in
    rw (p.1, p.2) (continues_stop (map flat_of c.args.sources.now) (flat_of c.args.first) c.args.plan.now at.number (flat_of at.column) at.answers.items c.index-plan-number.result c.in_err-next.field-0.0
    (omega arith) c.index-plan-number.is at.invariant.told c.in_err-next.ensures.err)

pub returns-in_err-next-clause-rise : goal.returns-in_err-next-clause-rise
returns-in_err-next-clause-rise g c bounded plain =
    let at = c.loop-number in
    let costs = at.invariant.costs bounded in
    let step = c.index-plan-number.result in
    let plan = c.args.plan.now in
    (rise_at c.args.first at.column plan at.number step c.args.steps.now at.steps c.take_step.new.steps (omega arith) c.index-plan-number.is costs (at.invariant.rise bounded plain)
    (c.take_step.ensures.rise (bound_at c.args.first at.column plan at.number step (omega arith) c.index-plan-number.is bounded costs) (costs.plain plain))).1

pub loop-number-preserved : goal.loop-number-preserved
loop-number-preserved g c =
    let at = c.loop-number in
    let inv = at.invariant in
    let sources = map flat_of c.args.sources.now in
    let first = flat_of c.args.first in
    let plan = c.args.plan.now in
    let was = flat_of at.column in
    let step = c.index-plan-number.result in
    let taken = c.in_ok-next.ensures in
    let more = c.take_step.new.answers.items in
    record {
      told = subst (λ (x : Column). Continues sources first plan (at.number + 1) (flat_of x) more) (sym c.unwrap_or-column.ensures)
          (subst (λ (x : Flat). Continues sources first plan (at.number + 1) x more) (sym taken.left)
          (subst (Continues sources first plan (at.number + 1) (step_leaves sources was step)) (sym taken.answers)
          (continues_on sources first plan at.number was at.answers.items step (omega arith) c.index-plan-number.is inv.told taken.free)));
      sound = subst IsSound (sym c.unwrap_or-column.ensures) taken.sound;
      costs = λ bounded.
          let costs = inv.costs bounded in
          costs_on c.args.first at.column c.unwrap_or-column.result costs
          (subst (CostsNoMore at.column) (sym c.unwrap_or-column.ensures) (taken.costs (bound_at c.args.first at.column plan at.number step (omega arith) c.index-plan-number.is bounded costs)));
      rise = λ bounded plain.
          let costs = inv.costs bounded in
          (rise_at c.args.first at.column plan at.number step c.args.steps.now at.steps c.take_step.new.steps (omega arith) c.index-plan-number.is costs (inv.rise bounded plain)
          (c.take_step.ensures.rise (bound_at c.args.first at.column plan at.number step (omega arith) c.index-plan-number.is bounded costs) (costs.plain plain))).0;
      monotone = omega (arith, c.take_step.ensures.monotone, inv.monotone);
    }

pub returns-clause-ok : goal.returns-clause-ok
returns-clause-ok g c =
    let at = c.loop-number in
    let sources = map flat_of c.args.sources.now in
    let first = flat_of c.args.first in
    let plan = c.args.plan.now in
    subst (λ (a : AnswersView). RunsTo sources 0 first plan a.answers (flat_of a.column)) (sym c.new.ensures)
    (subst (λ (a : List Answer). RunsTo sources 0 first plan a (flat_of at.column)) (sym c.from_vec.ensures)
    (continues_last sources first plan at.number (flat_of at.column) at.answers.items (omega arith) at.invariant.told))

pub returns-clause-costs : goal.returns-clause-costs
returns-clause-costs g c bounded = subst (λ (a : AnswersView). CostsNoMore c.args.first a.column) (sym c.new.ensures) (c.loop-number.invariant.costs bounded)

pub returns-clause-rise : goal.returns-clause-rise
returns-clause-rise g c bounded plain =
    let at = c.loop-number in
    let first = c.args.first in
    omega (arith, at.invariant.rise bounded plain, cost_part (point_cost first) (select_bound first) c.args.plan.now at.number)
