-- A refusal is what one of the closures answered, and `find` answers nothing else.
use Rattle.std.proofs.Common.{rules, ◌≡◌, ℕ, length, Result, IfErr, inl, inr}
use Rattle.std.proofs.lemmas.Result.{IfErr-weaker}
use Rattle.std.specs.declared.cmp.Ordering.{Ordering}
use Rattle.vx_rows.specs.declared.error.ColumnError.{ColumnError}
use Rattle.vx_rows.specs.declared.error.ColumnError.TheVariants.{Unsorted}
use Rattle.vx_search.proofs.Calls.{answers_by, refusal_answers}
use Rattle.vx_search_cases.proofs.closures.refused.Goals as goal

pub search_sorted_by-requires-clause-find : goal.search_sorted_by-requires-clause-find
search_sorted_by-requires-clause-find g c =
    answers_by _ _ _ (λ f. Unit {0}) (λ f k i h. search rules) (λ f k r f' i h call. (tt, tt)) _ tt

pub search_sorted_by-requires-clause-side_find : goal.search_sorted_by-requires-clause-side_find
search_sorted_by-requires-clause-side_find g c =
    answers_by _ _ _ (λ f. Unit {0}) (λ f k i h. search rules) (λ f k r f' i h call. (tt, tt)) _ tt

pub returns : goal.returns
returns g c =
    let n = length (g.S.IndexOrd.sequence c.args.seq.now) in
    let P : ℕ → Result Ordering ColumnError → Type 0 = λ k r. IfErr r (λ x. x ≡ Unsorted) in
    IfErr-weaker c.search_sorted_by.result _ (λ e. e ≡ Unsorted)
    (λ e w. elim w as (λ _. e ≡ Unsorted) [
      | inl a ↦ (refusal_answers _ n P _ _ e (answers_by _ _ _ (λ f. Unit {0}) (λ f k i h. search rules) (λ f k r f' i h call. (search rules, tt)) _ tt) a).2
      | inr b ↦ (refusal_answers _ n P _ _ e (answers_by _ _ _ (λ f. Unit {0}) (λ f k i h. search rules) (λ f k r f' i h call. (search rules, tt)) _ tt) b).2
    ])
    c.search_sorted_by.ensures.err
