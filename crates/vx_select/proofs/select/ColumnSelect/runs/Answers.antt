use Rattle.std.proofs.Common.{sym, ap, subst, ◌∙◌, ◌+◌, ◌≤◌, length, ℕ, List}
use Rattle.std.specs.List.{All}
use Rattle.std.proofs.lemmas.Result.{IfOk-weaker}
use Rattle.vx_job.specs.Rows.{picked as rows_at}
use Rattle.vx_column.specs.Columns.{rows_of, type_of, len_of, select_bound}
use Rattle.vx_select.specs.Spots.{AreBelow}
use Rattle.vx_bulk.specs.Selections.{joined_runs, IsInside}
use Rattle.vx_select.specs.Chosen.{IsSelectionOf}
use Rattle.vx_select.proofs.Chosen.{runs_below, runs_rows, runs_many}
use Rattle.vx_select.proofs.Selected.{same_rows}
use Rattle.vx_select.proofs.select.ColumnSelect.runs.Goals as goal

pub picked_of-requires-clause-inside : goal.picked_of-requires-clause-inside
picked_of-requires-clause-inside g c =
    let self = c.args.self.now in
    let runs : List (ℕ × ℕ) = c.args.runs.now in
    let inside = subst (λ (n : ℕ). All (IsInside n) runs) c.len.ensures c.in_ok-check_runs.ensures.inside in
    subst (AreBelow (len_of self)) (sym (c.as_slice.ensures.value ∙ c.in_ok-places.ensures.ok)) (runs_below (len_of self) runs inside)

pub returns-clause-ok : goal.returns-clause-ok
returns-clause-ok g c =
    let self = c.args.self.now in
    let runs : List (ℕ × ℕ) = c.args.runs.now in
    let inside = subst (λ (n : ℕ). All (IsInside n) runs) c.len.ensures c.in_ok-check_runs.ensures.inside in
    let rows = ap (rows_at (rows_of self)) (c.as_slice.ensures.value ∙ c.in_ok-places.ensures.ok) ∙ runs_rows (rows_of self) runs inside in
    IfOk-weaker c.picked_of.result (IsSelectionOf self (type_of self) (rows_at (rows_of self) c.as_slice.result.now)) (IsSelectionOf self (type_of self) (joined_runs (rows_of self) runs))
    (λ part s. same_rows self (type_of self) (rows_at (rows_of self) c.as_slice.result.now) (joined_runs (rows_of self) runs) part rows s) c.picked_of.ensures.ok

pub returns-clause-rise : goal.returns-clause-rise
returns-clause-rise g c =
    let many = ap length (c.as_slice.ensures.value ∙ c.in_ok-places.ensures.ok) ∙ runs_many c.args.runs.now ∙ c.in_ok-check_runs.ensures.sum in
    subst (λ (n : ℕ). c.picked_of.new.steps ≤ c.args.steps.now + select_bound c.args.self.now n) many c.picked_of.ensures.rise
