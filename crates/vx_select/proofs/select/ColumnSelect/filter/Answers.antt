use Rattle.std.proofs.Common.{arith, sym, ap, subst, ◌∙◌, ◌≡◌, ◌+◌, ◌≤◌, length, ℕ}
use Rattle.std.proofs.lemmas.Result.{IfOk-weaker}
use Rattle.vx_masks.specs.Bits.{kept}
use Rattle.vx_masks.specs.Masks.{bits_of}
use Rattle.vx_job.specs.Rows.{picked as rows_at}
use Rattle.vx_column.specs.Columns.{rows_of, type_of, len_of, select_bound}
use Rattle.vx_select.specs.Spots.{AreBelow}
use Rattle.vx_select.specs.Chosen.{IsSelectionOf}
use Rattle.vx_select.proofs.Chosen.{places_below, places_many, kept_rows}
use Rattle.vx_select.proofs.Selected.{same_rows}
use Rattle.vx_select.proofs.select.ColumnSelect.filter.Goals as goal

pub picked_of-requires-clause-inside : goal.picked_of-requires-clause-inside
picked_of-requires-clause-inside g c =
    let self = c.args.self.now in
    let bits = bits_of c.args.mask.now in
    let long : length bits ≡ len_of self = omega arith in
    subst (AreBelow (len_of self)) (sym (c.as_slice.ensures.value ∙ c.in_ok-places.ensures.ok)) (places_below (len_of self) bits long)

pub returns-clause-ok : goal.returns-clause-ok
returns-clause-ok g c =
    let self = c.args.self.now in
    let bits = bits_of c.args.mask.now in
    let long : length bits ≡ len_of self = omega arith in
    let rows = ap (rows_at (rows_of self)) (c.as_slice.ensures.value ∙ c.in_ok-places.ensures.ok) ∙ kept_rows (rows_of self) bits long in
    IfOk-weaker c.picked_of.result (IsSelectionOf self (type_of self) (rows_at (rows_of self) c.as_slice.result.now)) (IsSelectionOf self (type_of self) (kept (rows_of self) bits))
    (λ part s. same_rows self (type_of self) (rows_at (rows_of self) c.as_slice.result.now) (kept (rows_of self) bits) part rows s) c.picked_of.ensures.ok

pub returns-clause-rise : goal.returns-clause-rise
returns-clause-rise g c =
    let many = ap length (c.as_slice.ensures.value ∙ c.in_ok-places.ensures.ok) ∙ places_many (bits_of c.args.mask.now) in
    subst (λ (n : ℕ). c.picked_of.new.steps ≤ c.args.steps.now + select_bound c.args.self.now n) many c.picked_of.ensures.rise
