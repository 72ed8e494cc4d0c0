use Rattle.std.proofs.Common.{Some, ap, sym, ◌∙◌}
use Rattle.std.proofs.lemmas.Result.{err_from_is_err_and}
use Rattle.serde_json.specs.View.{items_view}
use Rattle.vx_json_rows.specs.Packed.{truth_row}
use Rattle.vx_json_rows.proofs.Readings.{all_items-grown, list_fails}
use Rattle.vx_json_rows.proofs.packed.truths_of.Goals as goal

pub returns-in_err-push_truth : goal.returns-in_err-push_truth
returns-in_err-push_truth c =
    let p = err_from_is_err_and c.from_residual-in_err-push_truth.result
    c.from_residual-in_err-push_truth.ensures.1 in
    rw (p.1, p.2) (list_fails (truth_row c.args.kind.null_fits) _ c.deref-item-items.result.now c.loop-item.item-index
    c.item-item.result _
    (c.in_ok-items.ensures ∙ ap (λ vs. Some (items_view vs)) (sym c.deref-item-items.ensures.value))
    c.loop-item-test.true c.item-item.is c.in_err-push_truth.ensures)

pub loop-item-preserved : goal.loop-item-preserved
loop-item-preserved c =
    all_items-grown (truth_row c.args.kind.null_fits) c.deref-item-items.result.now
    c.loop-item.item-index c.item-item.result _ _ c.loop-item-test.true c.item-item.is c.loop-item.invariant
    c.in_ok-push_truth.ensures
