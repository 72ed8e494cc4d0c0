use Rattle.std.proofs.Common.{ℕ, List, Option, ap, sym, subst, map, arith}
use Rattle.vx_base.specs.Ranges.{ends_cut}
use Rattle.vx_column.specs.Columns.{flat_of, len_of, point_cost, cut_cost, select_bound}
use Rattle.vx_column.proofs.Cuts.{cut_at_most_twice}
use Rattle.vx_rows.specs.declared.error.ColumnError.{ColumnError}
use Rattle.vx_job.specs.declared.step.Step.{Step}
use Rattle.vx_job.specs.Selections.{IsTakeError, IsRunsError}
use Rattle.vx_job.specs.Steps.{step_cost, IsFree}
use Rattle.vx_plan.proofs.Runs.{slice_rise, ends_at_most_two}
use Rattle.vx_plan.proofs.run.take_step.Goals as goal

pub returns-in_err-slice-in-Slice-clause-rise : goal.returns-in_err-slice-in-Slice-clause-rise
returns-in_err-slice-in-Slice-clause-rise g c bounded plain =
    let x = c.args.column.now in
    let s = c.in-Slice in
    omega (
      arith,
      c.slice.ensures.rise plain,
      ap (step_cost (point_cost x) (select_bound x)) s.is,
      slice_rise (ends_cut s.start s.end (len_of x)) (cut_cost x) (point_cost x) (ends_at_most_two s.start s.end (len_of x)) (cut_at_most_twice x),
    )

pub returns-in_ok-slice-in-Slice-clause-rise : goal.returns-in_ok-slice-in-Slice-clause-rise
returns-in_ok-slice-in-Slice-clause-rise g c bounded plain =
    let x = c.args.column.now in
    let s = c.in-Slice in
    omega (
      arith,
      c.slice.ensures.rise plain,
      ap (step_cost (point_cost x) (select_bound x)) s.is,
      slice_rise (ends_cut s.start s.end (len_of x)) (cut_cost x) (point_cost x) (ends_at_most_two s.start s.end (len_of x)) (cut_at_most_twice x),
    )

pub returns-in_ok-take-in-Take-clause-free : goal.returns-in_ok-take-in-Take-clause-free
returns-in_ok-take-in-Take-clause-free g c =
    let x = c.args.column.now in
    subst (λ (s : Step). IsFree (map flat_of c.args.sources.now) c.args.number (flat_of x) s) (sym c.in-Take.is)
    (subst (λ (indices : List (Option ℕ)). (e : ColumnError) → IsTakeError (len_of x) indices e → ⊥) c.as_slice-in-Take.ensures c.in_ok-take-in-Take.ensures.free)

pub returns-in_ok-next-in-Runs-clause-free : goal.returns-in_ok-next-in-Runs-clause-free
returns-in_ok-next-in-Runs-clause-free g c =
    let x = c.args.column.now in
    subst (λ (s : Step). IsFree (map flat_of c.args.sources.now) c.args.number (flat_of x) s) (sym c.in-Runs.is)
    (subst (λ (runs : List (ℕ × ℕ)). (e : ColumnError) → IsRunsError (len_of x) c.in-Runs.len runs e → ⊥) c.as_slice-in-Runs.ensures c.in_ok-next-in-Runs.ensures.free)

pub returns-in_ok-fill-in-Fill-clause-free : goal.returns-in_ok-fill-in-Fill-clause-free
returns-in_ok-fill-in-Fill-clause-free g c =
    let x = c.args.column.now in
    subst (λ (s : Step). IsFree (map flat_of c.args.sources.now) c.args.number (flat_of x) s) (sym c.in-Fill.is) c.in_ok-fill-in-Fill.ensures.free

pub returns-in_ok-cast-in-Cast-clause-free : goal.returns-in_ok-cast-in-Cast-clause-free
returns-in_ok-cast-in-Cast-clause-free g c =
    let x = c.args.column.now in
    subst (λ (s : Step). IsFree (map flat_of c.args.sources.now) c.args.number (flat_of x) s) (sym c.in-Cast.is) c.in_ok-cast-in-Cast.ensures.free

pub returns-in_ok-next-in-Compare-clause-free : goal.returns-in_ok-next-in-Compare-clause-free
returns-in_ok-next-in-Compare-clause-free g c =
    let x = c.args.column.now in
    subst (λ (s : Step). IsFree (map flat_of c.args.sources.now) c.args.number (flat_of x) s) (sym c.in-Compare.is) c.in_ok-next-in-Compare.ensures.free

pub returns-in_ok-push-in-Search-clause-free : goal.returns-in_ok-push-in-Search-clause-free
returns-in_ok-push-in-Search-clause-free g c =
    let x = c.args.column.now in
    subst (λ (s : Step). IsFree (map flat_of c.args.sources.now) c.args.number (flat_of x) s) (sym c.in-Search.is) c.in_ok-place-in-Search.ensures.free
