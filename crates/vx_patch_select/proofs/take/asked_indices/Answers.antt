use Rattle.std.proofs.Common.{◌∙◌, ◌<◌, ◌++◌, ◌∷◌, [], ℕ, List, Option, None, length, get_or, sym, ap, arith}
use Rattle.std.proofs.lemmas.List.{take_all}
use Rattle.vx_patch_select.specs.Takes.{asked_index, asked}
use Rattle.vx_patch_select.proofs.Asking.{asked_more}
use Rattle.vx_patch_select.proofs.take.asked_indices.Goals as goal

pub loop-row-init : goal.loop-row-init
loop-row-init g c = record { items = c.new-asked.ensures.items; cost = omega arith }

pub returns-in_err-push-clause-rise : goal.returns-in_err-push-clause-rise
returns-in_err-push-clause-rise g c = omega (arith, c.loop-row.invariant.cost, c.index_at.ensures.cost, c.loop-row-test.true, c.len-row-end.ensures)

pub returns-in_err-push-clause-monotone : goal.returns-in_err-push-clause-monotone
returns-in_err-push-clause-monotone g c = omega (arith, c.loop-row.invariant.cost, c.index_at.ensures.cost)

pub loop-row-preserved : goal.loop-row-preserved
loop-row-preserved g c =
    let rows = c.args.indices.now.rows in
    let row = c.loop-row.row in
    let inside : row < length rows = omega (arith, c.loop-row-test.true, c.len-row-end.ensures) in
    record {
      items = c.in_ok-push.ensures.items ∙ ap (λ (x : Option ℕ). c.loop-row.asked.items ++ x ∷ []) c.index_at.ensures.index
          ∙ ap (λ (xs : List (Option ℕ)). xs ++ asked_index (get_or rows row None) ∷ []) c.loop-row.invariant.items ∙ sym (asked_more rows row inside);
      cost = omega (arith, c.loop-row.invariant.cost, c.index_at.ensures.cost);
    }

pub returns-clause-ok : goal.returns-clause-ok
returns-clause-ok g c =
    let rows = c.args.indices.now.rows in
    c.from_vec.ensures ∙ c.loop-row.invariant.items ∙ ap asked (take_all c.loop-row.row rows (omega (arith, c.loop-row-test.false, c.len-row-end.ensures)))

pub returns-clause-rise : goal.returns-clause-rise
returns-clause-rise g c = omega (arith, c.loop-row.invariant.cost, c.len-row-end.ensures)

pub returns-clause-monotone : goal.returns-clause-monotone
returns-clause-monotone g c = omega (arith, c.loop-row.invariant.cost)
