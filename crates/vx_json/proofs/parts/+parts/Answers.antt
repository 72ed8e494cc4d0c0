use Rattle.std.proofs.Common.{Some, ap, sym, ◌∙◌, arith}
use Rattle.std.proofs.lemmas.Result.{err_from_is_err_and}
use Rattle.serde_json.specs.View.{view, items_view}
use Rattle.vx_json.proofs.Members.{member_depth, item_depth}
use Rattle.vx_json_rows.proofs.Readings.{all_items-next, list_fails}
use Rattle.vx_json.specs.Parts.{part_of}
use Rattle.vx_json.proofs.parts.+parts.Goals as goal

pub parts_of-returns-in_err-part_of : goal.parts_of-returns-in_err-part_of
parts_of-returns-in_err-part_of t c =
    let p = err_from_is_err_and c.from_residual-in_err-part_of.result
    c.from_residual-in_err-part_of.ensures.1 in
    rw (p.1, p.2) (list_fails part_of _ c.deref-item-items.result.now c.loop-item.item-index
    c.item-item.result _ (c.in_ok-items.ensures
    ∙ ap (λ vs. Some (items_view vs)) (sym c.deref-item-items.ensures.value))
    c.loop-item-test.true c.item-item.is c.in_err-part_of.ensures)

pub parts_of-loop-item-preserved : goal.parts_of-loop-item-preserved
parts_of-loop-item-preserved t c =
    rw c.in_ok-push.ensures.items (all_items-next part_of c.deref-item-items.result.now
    c.loop-item.item-index c.item-item.result _ _ c.loop-item-test.true c.item-item.is c.loop-item.invariant
    c.in_ok-part_of.ensures)

pub part_in-part_of-requires : goal.part_in-part_of-requires
part_in-part_of-requires t c =
    let smaller = member_depth c.args.name.now (view c.args.value.now) _ c.in_ok-child.ensures in
    omega (arith, smaller)

pub parts_in-parts_of-requires : goal.parts_in-parts_of-requires
parts_in-parts_of-requires t c =
    let smaller = member_depth c.args.name.now (view c.args.value.now) _ c.in_ok-child.ensures in
    omega (arith, smaller)

pub parts_of-part_of-requires : goal.parts_of-part_of-requires
parts_of-part_of-requires t c =
    let smaller = item_depth (view c.args.value.now) c.deref-item-items.result.now c.loop-item.item-index
    c.item-item.result (c.in_ok-items.ensures
    ∙ ap (λ vs. Some (items_view vs)) (sym c.deref-item-items.ensures.value))
    c.loop-item-test.true c.item-item.is in
    omega (arith, smaller)
