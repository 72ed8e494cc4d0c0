use Rattle.std.proofs.Common.{List, ℕ, subst, sym}
use Rattle.std.specs.List.Sorted.{IsNonDecreasingBy}
use Rattle.std.specs.Ordering.{nat_cmp, ordering_index}
use Rattle.vx_search.proofs.Sorted.{numbers_searchable}
use Rattle.vx_search_bench.proofs.comparisons.Goals as goal

pub search_sorted-requires : goal.search_sorted-requires
search_sorted-requires c =
    subst (λ (xs : List ℕ). IsNonDecreasingBy (λ x. ordering_index (nat_cmp x c.args.value)) xs) (sym c.new-seq.ensures)
    (numbers_searchable c.args.values.now c.args.value c.requires)
