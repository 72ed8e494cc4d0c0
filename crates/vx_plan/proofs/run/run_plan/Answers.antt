use Rattle.std.proofs.Common.{◌≡◌, ◌⊎◌, ◌≤◌, ℕ, List, map, length, ap, subst, arith}
use Rattle.std.proofs.lemmas.Result.{IfOk-weaker, IfErr-weaker, err_from_is_err_and}
use Rattle.vx_rows.specs.declared.error.ColumnError.TheVariants.{OutOfMemory}
use Rattle.vx_column.specs.Columns.{flat_of, select_bound, IsPlain}
use Rattle.vx_job.specs.declared.part.Part.{Part}
use Rattle.vx_job.specs.Parts.{PartsCause, open_cost}
use Rattle.vx_job.specs.Plans.{RunsTo, StopsWith, Reaches, IsPlanError, rows_bound}
use Rattle.vx_plan.specs.AnswersView.{CostsNoMore}
use Rattle.vx_plan.proofs.Opened.{opened_length}
use Rattle.vx_plan.proofs.Headline.{first_of, first_sound, sources_sound, first_reaches, first_error, first_bounded, first_bound, open_bound, first_plain, first_is_plain, first_select, parts_error, only_memory}
use Rattle.vx_plan.proofs.run.run_plan.Goals as goal

-- ---- the parts aren't opened

pub returns-in_err-columns-clause-err : goal.returns-in_err-columns-clause-err
returns-in_err-columns-clause-err g c =
    let p = err_from_is_err_and c.from_residual.result c.from_residual.ensures.1 in
    let e = c.in_err-columns.field-0.0 in
    rw (p.1, p.2) (parts_error c.args.parts.items c.args.plan.now e (subst (λ (ps : List Part). PartsCause ps e) c.as_slice.ensures.value c.in_err-columns.ensures.err))

pub returns-in_err-columns-clause-complete : goal.returns-in_err-columns-clause-complete
returns-in_err-columns-clause-complete g c answers last reached =
    let p = err_from_is_err_and c.from_residual.result c.from_residual.ensures.1 in
    let e = c.in_err-columns.field-0.0 in
    rw (p.1, p.2) (only_memory c.args.parts.items c.args.plan.now answers last reached e
    (parts_error c.args.parts.items c.args.plan.now e (subst (λ (ps : List Part). PartsCause ps e) c.as_slice.ensures.value c.in_err-columns.ensures.err)))

pub returns-in_err-columns-clause-rise : goal.returns-in_err-columns-clause-rise
returns-in_err-columns-clause-rise g c bounded = omega (arith, c.in_err-columns.ensures.rise, ap open_cost c.as_slice.ensures.value, open_bound c.args.parts.items c.args.plan.now)

-- ---- the first column

pub bounds-as_slice-0 : goal.bounds-as_slice-0
bounds-as_slice-0 g c =
    omega (arith, c.in_ok-columns.ensures.some, opened_length c.as_slice.result.now c.in_ok-columns.columns.items c.in_ok-columns.ensures.ok, ap length c.as_slice-2.ensures.value)

pub run_steps-requires-clause-sound : goal.run_steps-requires-clause-sound
run_steps-requires-clause-sound g c = first_sound c.args.parts.items c.as_slice-3.result.now c.in_ok-first.first
    (first_of c.args.parts.items c.as_slice.result.now c.in_ok-columns.columns.items c.as_slice-2.result.now c.as_slice-3.result.now c.index-as_slice-0.result c.in_ok-first.first c.as_slice.ensures.value
    c.in_ok-columns.ensures.ok c.in_ok-columns.ensures.some c.as_slice-2.ensures.value c.as_slice-3.ensures.value c.index-as_slice-0.is c.in_ok-first.ensures.ok)

pub run_steps-requires-clause-sources : goal.run_steps-requires-clause-sources
run_steps-requires-clause-sources g c = sources_sound c.args.parts.items c.as_slice-3.result.now c.in_ok-first.first
    (first_of c.args.parts.items c.as_slice.result.now c.in_ok-columns.columns.items c.as_slice-2.result.now c.as_slice-3.result.now c.index-as_slice-0.result c.in_ok-first.first c.as_slice.ensures.value
    c.in_ok-columns.ensures.ok c.in_ok-columns.ensures.some c.as_slice-2.ensures.value c.as_slice-3.ensures.value c.index-as_slice-0.is c.in_ok-first.ensures.ok)

-- ---- the steps

pub returns-clause-ok : goal.returns-clause-ok
returns-clause-ok g c =
    let parts = c.args.parts.items in
    let columns = c.as_slice-3.result.now in
    let first = c.in_ok-first.first in
    let plan = c.args.plan.now in
    let is = first_of parts c.as_slice.result.now c.in_ok-columns.columns.items c.as_slice-2.result.now columns c.index-as_slice-0.result first c.as_slice.ensures.value c.in_ok-columns.ensures.ok
    c.in_ok-columns.ensures.some c.as_slice-2.ensures.value c.as_slice-3.ensures.value c.index-as_slice-0.is c.in_ok-first.ensures.ok in
    IfOk-weaker c.run_steps.result (λ a. RunsTo (map flat_of columns) 0 (flat_of first) plan a.answers (flat_of a.column)) (λ a. Reaches parts plan a.answers (flat_of a.column))
    (λ a run. first_reaches parts columns first plan a.answers (flat_of a.column) is run) c.run_steps.ensures.ok

pub returns-clause-err : goal.returns-clause-err
returns-clause-err g c =
    let parts = c.args.parts.items in
    let columns = c.as_slice-3.result.now in
    let first = c.in_ok-first.first in
    let plan = c.args.plan.now in
    let is = first_of parts c.as_slice.result.now c.in_ok-columns.columns.items c.as_slice-2.result.now columns c.index-as_slice-0.result first c.as_slice.ensures.value c.in_ok-columns.ensures.ok
    c.in_ok-columns.ensures.some c.as_slice-2.ensures.value c.as_slice-3.ensures.value c.index-as_slice-0.is c.in_ok-first.ensures.ok in
    IfErr-weaker c.run_steps.result (λ e. (e ≡ OutOfMemory) ⊎ StopsWith (map flat_of columns) 0 (flat_of first) plan e) (λ e. (e ≡ OutOfMemory) ⊎ IsPlanError parts plan e)
    (λ e. first_error parts columns first plan e is) c.run_steps.ensures.err

pub returns-clause-complete : goal.returns-clause-complete
returns-clause-complete g c answers last reached =
    let parts = c.args.parts.items in
    let columns = c.as_slice-3.result.now in
    let first = c.in_ok-first.first in
    let plan = c.args.plan.now in
    let is = first_of parts c.as_slice.result.now c.in_ok-columns.columns.items c.as_slice-2.result.now columns c.index-as_slice-0.result first c.as_slice.ensures.value c.in_ok-columns.ensures.ok
    c.in_ok-columns.ensures.some c.as_slice-2.ensures.value c.as_slice-3.ensures.value c.index-as_slice-0.is c.in_ok-first.ensures.ok in
    IfErr-weaker c.run_steps.result (λ e. (e ≡ OutOfMemory) ⊎ StopsWith (map flat_of columns) 0 (flat_of first) plan e) (λ e. e ≡ OutOfMemory)
    (λ e cause. only_memory parts plan answers last reached e (first_error parts columns first plan e is cause)) c.run_steps.ensures.err

pub returns-clause-rise : goal.returns-clause-rise
returns-clause-rise g c bounded =
    let parts = c.args.parts.items in
    let columns = c.as_slice-3.result.now in
    let first = c.in_ok-first.first in
    let plan = c.args.plan.now in
    let is = first_of parts c.as_slice.result.now c.in_ok-columns.columns.items c.as_slice-2.result.now columns c.index-as_slice-0.result first c.as_slice.ensures.value c.in_ok-columns.ensures.ok
    c.in_ok-columns.ensures.some c.as_slice-2.ensures.value c.as_slice-3.ensures.value c.index-as_slice-0.is c.in_ok-first.ensures.ok in
    omega (
      arith,
      c.in_ok-columns.ensures.rise,
      ap open_cost c.as_slice.ensures.value,
      c.run_steps.ensures.rise (first_bounded parts columns first plan is bounded) (first_is_plain parts columns first is),
      first_bound parts columns first plan is,
    )

pub returns-clause-plain : goal.returns-clause-plain
returns-clause-plain g c bounded =
    let parts = c.args.parts.items in
    let columns = c.as_slice-3.result.now in
    let first = c.in_ok-first.first in
    let plan = c.args.plan.now in
    let is = first_of parts c.as_slice.result.now c.in_ok-columns.columns.items c.as_slice-2.result.now columns c.index-as_slice-0.result first c.as_slice.ensures.value c.in_ok-columns.ensures.ok
    c.in_ok-columns.ensures.some c.as_slice-2.ensures.value c.as_slice-3.ensures.value c.index-as_slice-0.is c.in_ok-first.ensures.ok in
    IfOk-weaker c.run_steps.result (λ a. CostsNoMore first a.column) (λ a. IsPlain a.column)
    (λ a costs. first_plain parts columns first a.column is costs) (c.run_steps.ensures.costs (first_bounded parts columns first plan is bounded))

pub returns-clause-select : goal.returns-clause-select
returns-clause-select g c bounded =
    let parts = c.args.parts.items in
    let columns = c.as_slice-3.result.now in
    let first = c.in_ok-first.first in
    let plan = c.args.plan.now in
    let is = first_of parts c.as_slice.result.now c.in_ok-columns.columns.items c.as_slice-2.result.now columns c.index-as_slice-0.result first c.as_slice.ensures.value c.in_ok-columns.ensures.ok
    c.in_ok-columns.ensures.some c.as_slice-2.ensures.value c.as_slice-3.ensures.value c.index-as_slice-0.is c.in_ok-first.ensures.ok in
    IfOk-weaker c.run_steps.result (λ a. CostsNoMore first a.column) (λ a. (n : ℕ) → select_bound a.column n ≤ rows_bound parts n)
    (λ a costs n. first_select parts columns first a.column n is costs) (c.run_steps.ensures.costs (first_bounded parts columns first plan is bounded))
