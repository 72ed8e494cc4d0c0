-- Both closures only look at the index, which stays as it is; the order of indices gives the place.
use Rattle.std.proofs.Common.{rules, ◌≡◌, ℕ, ◌<◌, ◌≤◌, ap, arith, inl, inr, cond, nat_lt, length}
use Rattle.std.proofs.lemmas.Result.{IfOk-weaker}
use Rattle.std.proofs.lemmas.Bool.{cases_lt}
use Rattle.std.proofs.lemmas.Bool.Decides.{nat_tests}
use Rattle.std.specs.declared.cmp.Ordering.TheVariants.{Less, Greater}
use Rattle.std.specs.Ordering.{nat_cmp, ordering_index}
use Rattle.vx_search.specs.Halving.{Ascends, IsBorder, EdgeOf, IsPlaceBy}
use Rattle.vx_search.specs.declared.result.SearchResult.{SearchResult}
use Rattle.vx_search.specs.declared.result.SearchResult.TheVariants.{Found, NotFound}
use Rattle.vx_search.specs.declared.result.SearchSortedSide.TheVariants.{Left}
use Rattle.vx_search.proofs.Calls.{answers_by}
use Rattle.vx_search_cases.proofs.closures.place_of_index.Goals as goal

same_index : (i : ℕ) → ordering_index (nat_cmp i i) ≡ 1
same_index i = grind (arith, nat_tests)

index_rank : (a b i : ℕ) → a ≤ b → ordering_index (nat_cmp a i) ≤ ordering_index (nat_cmp b i)
index_rank a b i h = grind (arith, nat_tests)

index_ascends : (i n : ℕ) → Ascends (λ k. nat_cmp k i) n
index_ascends i n = λ a b h l. index_rank a b i h

index_border : (i n : ℕ) → i < n → IsBorder (λ k. cond (nat_lt k i) Less Greater) n i
index_border i n h = record { within = omega arith; below = λ k a b. grind (arith, nat_tests); above = λ k a b. grind (arith, nat_tests) }

equal_from : (k i : ℕ) → ordering_index (nat_cmp k i) ≡ 1 → i ≤ k
equal_from k i e = grind (arith, nat_tests)

index_edge : (i n : ℕ) → EdgeOf Left (λ k. nat_cmp k i) n i
index_edge i n = λ k h e. equal_from k i (ap ordering_index e)

index_found : (i n : ℕ) → i < n → (p : SearchResult) → IsPlaceBy (λ k. nat_cmp k i) n i p → p ≡ Found i
index_found i n h (Found j) w = ap Found w.0
index_found i n h (NotFound j) w =
    elim (cases_lt i j) as (λ _. NotFound j ≡ Found i) [
      | inl below ↦ absurd (omega (arith, same_index i, ap ordering_index (w.1 i (omega arith) below)))
      | inr above ↦ absurd (omega (arith, same_index i, ap ordering_index (w.2 i above h)))
    ]

pub search_sorted_by-requires-clause-find : goal.search_sorted_by-requires-clause-find
search_sorted_by-requires-clause-find g c =
    answers_by _ _ _ (λ f. f.0.now ≡ c.args.index) (λ f k i h. search rules) (λ f k r f' i h call. (tt, search rules)) _ (search rules)

pub search_sorted_by-requires-clause-side_find : goal.search_sorted_by-requires-clause-side_find
search_sorted_by-requires-clause-side_find g c =
    answers_by _ _ _ (λ f. f.0.now ≡ c.args.index) (λ f k i h. search rules) (λ f k r f' i h call. (tt, search rules)) _ (search rules)

pub returns : goal.returns
returns g c =
    let n = length (g.S.IndexOrd.sequence c.args.seq.now) in
    let i = c.args.index in
    let P : SearchResult → Type 0 = λ p. IsPlaceBy (λ k. nat_cmp k i) n i p in
    IfOk-weaker c.search_sorted_by.result P (λ p. p ≡ Found i) (λ p w. index_found i n c.requires p w)
    (c.search_sorted_by.ensures.ok (λ k. nat_cmp k i) (λ k. cond (nat_lt k i) Less Greater) i
    (answers_by _ _ _ (λ f. f.0.now ≡ i) (λ f k j h. search rules) (λ f k r f' j h call. (search rules, search rules)) _ (search rules))
    (answers_by _ _ _ (λ f. f.0.now ≡ i) (λ f k j h. search rules) (λ f k r f' j h call. (search rules, search rules)) _ (search rules))
    (index_ascends i n) (index_border i n c.requires) (index_edge i n))
