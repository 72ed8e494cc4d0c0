use Rattle.std.proofs.Common.{arith, ap, sym, ◌∙◌, ◌≡◌, ◌+◌, ◌∷◌, ◌++◌, [], ℕ, List}
use Rattle.std.specs.List.{range_with_len}
use Rattle.vx_select.proofs.Ranges.{range_more}
use Rattle.vx_select.proofs.touched.numbers_below.Goals as goal

pub loop-number-preserved : goal.loop-number-preserved
loop-number-preserved c =
    let k = c.loop-number.number in
    let e : k ≡ 0 + k = omega arith in
    c.in_ok-push.ensures.items ∙ ap (λ (ns : List ℕ). ns ++ k ∷ []) c.loop-number.invariant ∙ ap (λ n. range_with_len 0 k ++ n ∷ []) e ∙ sym (range_more 0 k)
