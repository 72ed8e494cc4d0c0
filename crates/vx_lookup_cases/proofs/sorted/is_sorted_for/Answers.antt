use Rattle.std.proofs.Common.{rules, arith, ap, subst, sym, ◌≡◌, ◌∙◌, ℕ, ◌+◌, ◌-◌, ◌<◌, ◌≤◌, length, get_or}
use Rattle.std.specs.List.Sorted.{IsNonDecreasingBy}
use Rattle.std.proofs.lemmas.List.Sorted.{IsNonDecreasingBy-from_all_adjacent}
use Rattle.std.specs.List.{AllAdjacentBelow}
use Rattle.std.specs.Ordering.{ordering_index}
use Rattle.vx_lookup_cases.proofs.Ranks.{one_more, rank_told}
use Rattle.vx_lookup_cases.proofs.sorted.is_sorted_for.Goals as goal

pub loop-i-preserved : goal.loop-i-preserved
loop-i-preserved g c =
    let R = g.S.IndexOrd.stands in
    let xs = g.S.IndexOrd.sequence c.args.seq.now in
    let v = c.args.value.now in
    let i = c.loop-i.i in
    let next = c.rank_of-next.result in
    let inside : i < length xs = omega (arith, c.loop-i-test.true, c.index_len-i-end.ensures) in
    let here : (d : g.S.IndexOrd.Element) → ordering_index (R (get_or xs i d) v) ≡ next =
    rank_told R xs (g.S.IndexOrd.sequence c.loop-i.seq) v i c.in_ok-index_cmp.field-0 next c.loop-i.invariant.same inside c.in_ok-index_cmp.ensures.ok c.rank_of-next.ensures in
    record {
      so_far = one_more (λ x. ordering_index (R x v)) xs i c.loop-i.last next c.loop-i.invariant.so_far c.loop-i.invariant.last here c.if-next-last.false;
      last = λ d h. let back : i + 1 - 1 ≡ i = omega arith in ap (λ k. ordering_index (R (get_or xs k d) v)) back ∙ here d;
      same = search rules;
    }

pub returns : goal.returns
returns g c = λ _.
    let R = g.S.IndexOrd.stands in
    let xs = g.S.IndexOrd.sequence c.args.seq.now in
    let v = c.args.value.now in
    let n : g.S.IndexOrd.Element → ℕ = λ x. ordering_index (R x v) in
    let all : c.loop-i.i ≡ length xs = omega (arith, c.loop-i-test.false, c.loop-i.auto.i-end, c.index_len-i-end.ensures) in
    let sorted : IsNonDecreasingBy n xs = IsNonDecreasingBy-from_all_adjacent n xs (subst (AllAdjacentBelow (λ x y. n x ≤ n y) xs) all c.loop-i.invariant.so_far) in
    subst (IsNonDecreasingBy n) (sym c.loop-i.invariant.same) sorted
