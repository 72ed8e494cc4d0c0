use Rattle.std.proofs.Common.{Some, ap, sym, ◌∙◌}
use Rattle.std.proofs.lemmas.Result.{err_from_is_err_and}
use Rattle.serde_json.specs.View.{items_view}
use Rattle.vx_json_rows.proofs.Readings.{all_items-next, list_fails}
use Rattle.vx_json.specs.Steps.{step_of}
use Rattle.vx_json.proofs.steps.steps_of.Goals as goal

pub returns-in_err-step_of : goal.returns-in_err-step_of
returns-in_err-step_of c =
    let p = err_from_is_err_and c.from_residual-in_err-step_of.result
    c.from_residual-in_err-step_of.ensures.1 in
    rw (p.1, p.2) (list_fails step_of _ c.deref-item-items.result.now c.loop-item.item-index
    c.item-item.result _
    (c.in_ok-items.ensures ∙ ap (λ vs. Some (items_view vs)) (sym c.deref-item-items.ensures.value))
    c.loop-item-test.true c.item-item.is c.in_err-step_of.ensures)

pub loop-item-preserved : goal.loop-item-preserved
loop-item-preserved c =
    rw c.in_ok-push.ensures.items (all_items-next step_of c.deref-item-items.result.now
    c.loop-item.item-index
    c.item-item.result _ _ c.loop-item-test.true c.item-item.is c.loop-item.invariant c.in_ok-step_of.ensures)
