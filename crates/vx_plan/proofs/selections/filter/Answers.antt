use Rattle.std.proofs.Common.{◌≡◌, ◌+◌, ◌≤◌, List, Bool, length, refl, sym, ◌∙◌, ap, subst}
use Rattle.std.proofs.lemmas.Result.{IfOk-weaker, on_ok_weaker}
use Rattle.std.specs.Result.{IfOk, IfErr}
use Rattle.vx_base.specs.Column.{flat}
use Rattle.vx_masks.specs.Bits.{kept, count_true}
use Rattle.vx_column.specs.Columns.{IsSound, rows_of, type_of, len_of, flat_of, select_bound}
use Rattle.vx_job.proofs.SelectionErrors.{length_free}
use Rattle.vx_select.specs.Causes.{FilterCause}
use Rattle.vx_plan.specs.AnswersView.{CostsNoMore}
use Rattle.vx_plan.proofs.Selecting.{selected_flat, selected_costs}
use Rattle.vx_plan.proofs.selections.filter.Goals as goal

pub returns-clause-sound : goal.returns-clause-sound
returns-clause-sound g c = IfOk-weaker c.filter.result _ IsSound (λ part is. is.sound) c.filter.ensures.ok

pub returns-clause-ok : goal.returns-clause-ok
returns-clause-ok g c =
    let x = c.args.column.now in
    subst (λ (bits : List Bool). IfOk c.filter.result (λ part. flat_of part ≡ flat (type_of x) (kept (rows_of x) bits))) c.in_ok-mask.ensures.bits
    (IfOk-weaker c.filter.result _ _ (λ part is. selected_flat x (type_of x) _ part is) c.filter.ensures.ok)

pub returns-clause-costs : goal.returns-clause-costs
returns-clause-costs g c =
    let x = c.args.column.now in
    IfOk-weaker c.filter.result _ (CostsNoMore x) (λ part is. selected_costs x (type_of x) _ part refl is) c.filter.ensures.ok

pub returns-clause-free : goal.returns-clause-free
returns-clause-free g c = on_ok_weaker c.filter.result (λ long. length_free _ _ (ap length (sym c.in_ok-mask.ensures.bits) ∙ long)) c.filter.ensures.long

pub returns-clause-err : goal.returns-clause-err
returns-clause-err g c =
    let x = c.args.column.now in
    subst (λ (bits : List Bool). IfErr c.filter.result (FilterCause (len_of x) (length bits))) c.in_ok-mask.ensures.bits c.filter.ensures.err

pub returns-clause-rise : goal.returns-clause-rise
returns-clause-rise g c =
    let x = c.args.column.now in
    subst (λ (bits : List Bool). c.filter.new.steps ≤ c.args.steps.now + select_bound x (count_true bits)) c.in_ok-mask.ensures.bits c.filter.ensures.rise
