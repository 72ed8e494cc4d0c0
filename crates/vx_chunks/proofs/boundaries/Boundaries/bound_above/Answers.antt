use Rattle.std.proofs.Common.{arith, ap, sym, subst, ◌∙◌, ◌≡◌, ◌-◌, IfOk, length, take}
use Rattle.vx_chunks.specs.Bounds.{total}
use Rattle.std.specs.List.Sorted.{IsNonDecreasingBy}
use Rattle.std.specs.Ordering.{nat_cmp, ordering_index}
use Rattle.vx_search.specs.Answers.{standing}
use Rattle.vx_search.specs.Places.{place, search_bound}
use Rattle.vx_search.specs.declared.result.SearchSortedSide.TheVariants.{Right}
use Rattle.vx_chunks.proofs.Sums.{length-running}
use Rattle.vx_chunks.proofs.Counts.{not_above_within, not_above_below, not_above_above, running_ascends, searched}
use Rattle.vx_chunks.proofs.boundaries.Boundaries.bound_above.Goals as goal

pub search_sorted-place-requires : goal.search_sorted-place-requires
search_sorted-place-requires g c =
    subst (IsNonDecreasingBy (λ x. ordering_index (nat_cmp x c.args.index))) (sym (c.new-boundaries.ensures ∙ c.values.ensures)) (running_ascends c.args.self.now c.args.index)

pub returns-clause-within : goal.returns-clause-within
returns-clause-within g c =
    let lens = c.args.self.now in
    let found = subst (λ r. IfOk r (λ p. p ≡ place Right (standing nat_cmp c.new-boundaries.result c.args.index))) c.unwrap.ensures c.search_sorted-place.ensures.ok in
    let same = searched c.new-boundaries.result lens c.args.index c.to_index.result c.unwrap.result (c.new-boundaries.ensures ∙ c.values.ensures) found c.to_index.ensures in
    omega (arith, same, not_above_within 0 lens c.args.index)

pub returns-clause-below : goal.returns-clause-below
returns-clause-below g c some =
    let lens = c.args.self.now in
    let found = subst (λ r. IfOk r (λ p. p ≡ place Right (standing nat_cmp c.new-boundaries.result c.args.index))) c.unwrap.ensures c.search_sorted-place.ensures.ok in
    let same = searched c.new-boundaries.result lens c.args.index c.to_index.result c.unwrap.result (c.new-boundaries.ensures ∙ c.values.ensures) found c.to_index.ensures in
    omega (arith, ap (λ k. total (take (k - 1) lens)) same, not_above_below 0 lens c.args.index (omega (arith, same)))

pub returns-clause-above : goal.returns-clause-above
returns-clause-above g c inside =
    let lens = c.args.self.now in
    let found = subst (λ r. IfOk r (λ p. p ≡ place Right (standing nat_cmp c.new-boundaries.result c.args.index))) c.unwrap.ensures c.search_sorted-place.ensures.ok in
    let same = searched c.new-boundaries.result lens c.args.index c.to_index.result c.unwrap.result (c.new-boundaries.ensures ∙ c.values.ensures) found c.to_index.ensures in
    omega (arith, ap (λ k. total (take k lens)) same, not_above_above 0 lens c.args.index (omega (arith, same)))

pub returns-clause-rise : goal.returns-clause-rise
returns-clause-rise g c =
    let n = ap search_bound (ap length (c.new-boundaries.ensures ∙ c.values.ensures) ∙ length-running 0 c.args.self.now) in
    omega (arith, c.search_sorted-place.ensures.rise, n)
