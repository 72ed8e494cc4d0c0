use Rattle.std.proofs.Common.{◌≡◌, ◌∙◌, ◌+◌, ◌<◌, ◌++◌, ◌∷◌, [], ℕ, List, Vec, Global, length, take, sym, ap, arith}
use Rattle.vx_masks.specs.Masks.{bits_of}
use Rattle.vx_patches.specs.Places.{rows_of}
use Rattle.vx_patches.proofs.Columns.{rows_number}
use Rattle.vx_patch_select.proofs.Keeping.{places_left, left_yes, left_no}
use Rattle.vx_patch_select.proofs.kept.plan_mask.Goals as goal
use Rattle.vx_patch_select.proofs.kept.plan_mask.Goals.{then-not-value+in_ok-push, else-not-value}

pub loop-place-preserved : goal.loop-place-preserved
loop-place-preserved g c =
    let bits = bits_of c.args.mask.now in
    let rows = rows_of c.args.rows.now in
    let place = c.loop-place.place in
    let inv = c.loop-place.invariant in
    let items : Vec ℕ Global → List ℕ = λ v. v.items in
    let here : place < length rows = omega (arith, c.loop-place-test.true, c.len-place-end.ensures.len, rows_number c.args.rows.now) in
    record {
      left = elim c.if-not-value.branch as (λ _. c.if-not-value.places.items ≡ places_left bits (take (place + 1) rows)) [
        | then-not-value+in_ok-push w ↦
            ap items w.places-is ∙ w.in_ok-push.ensures.items ∙ ap (λ (xs : List ℕ). xs ++ place ∷ []) inv.left
            ∙ sym (left_yes bits rows place c.at.result here c.at.ensures.row (sym c.value.ensures ∙ w.if-not-value.true))
        | else-not-value w ↦
            ap items w.places-is ∙ inv.left ∙ sym (left_no bits rows place c.at.result here c.at.ensures.row (sym c.value.ensures ∙ w.if-not-value.false))
      ];
      spent = omega (arith, c.at.ensures.cost, inv.spent);
    }
