use Rattle.std.proofs.Common.{Some, ap, sym, ◌∙◌}
use Rattle.std.proofs.lemmas.Result.{err_from_is_err_and}
use Rattle.serde_json.specs.View.{items_view}
use Rattle.vx_json_rows.specs.Rows.{fitting_row}
use Rattle.vx_json_rows.proofs.Readings.{all_items-grown, list_fails}
use Rattle.vx_json_rows.proofs.rows.each_row.Goals as goal

pub returns-in_err-push_fitting : goal.returns-in_err-push_fitting
returns-in_err-push_fitting c =
    let p = err_from_is_err_and c.from_residual-in_err-push_fitting.result
    c.from_residual-in_err-push_fitting.ensures.1 in
    rw (p.1, p.2) (list_fails (fitting_row c.args.dtype.now) _ c.deref-item-items.result.now c.loop-item.item-index
    c.item-item.result _
    (c.in_ok-items.ensures ∙ ap (λ vs. Some (items_view vs)) (sym c.deref-item-items.ensures.value))
    c.loop-item-test.true c.item-item.is c.in_err-push_fitting.ensures)

pub loop-item-preserved : goal.loop-item-preserved
loop-item-preserved c =
    all_items-grown (fitting_row c.args.dtype.now) c.deref-item-items.result.now
    c.loop-item.item-index c.item-item.result _ _ c.loop-item-test.true c.item-item.is c.loop-item.invariant
    c.in_ok-push_fitting.ensures
