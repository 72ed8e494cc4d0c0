-- Both closures only look at the values, which stay as they are.
use Rattle.std.proofs.Common.{rules, ◌≡◌, length}
use Rattle.vx_search.proofs.Calls.{answers_by}
use Rattle.vx_search_cases.proofs.closures.front_of.Goals as goal

pub search_sorted_by-requires-clause-find : goal.search_sorted_by-requires-clause-find
search_sorted_by-requires-clause-find g c =
    answers_by _ _ _ (λ f. length f.0.now ≡ length c.args.values.now) (λ f k i h. search rules) (λ f k r f' i h call. (tt, search rules)) _ (search rules)

pub search_sorted_by-requires-clause-side_find : goal.search_sorted_by-requires-clause-side_find
search_sorted_by-requires-clause-side_find g c =
    answers_by _ _ _ (λ f. length f.0.now ≡ length c.args.values.now) (λ f k i h. search rules) (λ f k r f' i h call. (tt, search rules)) _ (search rules)
