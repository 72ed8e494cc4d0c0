-- One more element of a sequence whose ranks don't fall.
use Rattle.std.proofs.Common.{◌≡◌, ◌∙◌, ℕ, ◌+◌, ◌-◌, ◌<◌, ◌≤◌, ap, arith, inl, inr, sym, subst, List, Option, length, get_or}
use Rattle.std.proofs.lemmas.Bool.{cases_lt}
use Rattle.std.proofs.lemmas.List.Sorted.{all_adjacent_more}
use Rattle.std.proofs.lemmas.Option.{slice_get-map, slice_get-get_or}
use Rattle.std.specs.List.{AllAdjacentBelow, slice_get}
use Rattle.std.specs.Option.{option_map}
use Rattle.std.specs.declared.cmp.Ordering.{Ordering}
use Rattle.std.specs.Ordering.{ordering_index}
use Rattle.vx_search.specs.Answers.{standing}
use Rattle.vx_lookup_cases.specs.Ranks.{rank}

pub rank_at : {E V : Type 0} (R : E → V → Ordering) (xs : List E) (v : V) (i : ℕ) (d : E) → i < length xs
    → rank (slice_get (standing R xs v) i) ≡ ordering_index (R (get_or xs i d) v)
rank_at R xs v i d h = ap rank (slice_get-map (λ x. R x v) xs i ∙ ap (option_map (λ x. R x v)) (slice_get-get_or xs i d h))

pub one_more : {E : Type 0} (n : E → ℕ) (xs : List E) (i last next : ℕ) → AllAdjacentBelow (λ x y. n x ≤ n y) xs i
    → ((d : E) → 0 < i → n (get_or xs (i - 1) d) ≡ last) → ((d : E) → n (get_or xs i d) ≡ next) → last ≤ next
    → AllAdjacentBelow (λ x y. n x ≤ n y) xs (i + 1)
one_more n xs i last next so_far before here h =
    elim (cases_lt 0 i) as (λ _. AllAdjacentBelow (λ x y. n x ≤ n y) xs (i + 1)) [
      | inl some ↦ all_adjacent_more xs (λ x y. n x ≤ n y) i some so_far (λ d. omega (arith, before d some, here d))
      | inr none ↦ λ k d low. absurd (omega arith)
    ]

pub rank_told : {E V : Type 0} (R : E → V → Ordering) (xs ys : List E) (v : V) (i : ℕ) (o : Option Ordering) (next : ℕ) → ys ≡ xs → i < length xs
    → o ≡ slice_get (standing R ys v) i → next ≡ rank o → (d : E) → ordering_index (R (get_or xs i d) v) ≡ next
rank_told R xs ys v i o next same h told e d =
    let here : o ≡ slice_get (standing R xs v) i = subst (λ zs. o ≡ slice_get (standing R zs v) i) same told in
    sym (rank_at R xs v i d h) ∙ ap rank (sym here) ∙ sym e
