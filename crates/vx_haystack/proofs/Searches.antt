-- What a search in a sorted list finds, and what a list keeps when equal elements become one.
use Rattle.std.proofs.Common.{ℕ, ◌≡◌, ◌∙◌, inl, inr, ◌+◌, ap, sym, refl, arith, Bool, true, false, cond, ◌||◌, List, [], ◌∷◌, length, get_or, Result, Ok, Err, is_ok}
use Rattle.std.specs.declared.cmp.Ordering.{Ordering}
use Rattle.std.specs.declared.cmp.Ordering.TheVariants.{Less, Equal, Greater}
use Rattle.std.specs.Cmp.{IsTotalOrder}
use Rattle.std.specs.List.{list_any, dedup, dedup_from}
use Rattle.std.specs.List.Sorted.{IsSortedBy, IsSorted, IsStrictlySortedBy, IsBinarySearchResult, IsSearchInRange, IsPermutation}
use Rattle.std.specs.List.Retain.{IsFiltered, DiffersFromLast}
use Rattle.std.specs.Ordering.{is_eq, is_lt, ordering_reverse, eq_by_cmp}
use Rattle.std.proofs.lemmas.Bool.{cases_lt}
use Rattle.std.proofs.lemmas.List.Filters.{dedup_is}
use Rattle.std.proofs.lemmas.List.Folds.{list_any_at, list_any_none}
use Rattle.std.proofs.lemmas.List.Kept.{IsStrictlySortedBy-dedup}
use Rattle.std.proofs.lemmas.List.Sorted.{searchable_from_sorted, list_any-IsPermutation}
use Rattle.std.proofs.lemmas.Map.Keys.{Less-from_sorted}

module _ {X : Type 0} {R : X → X → Ordering} (o : IsTotalOrder R) where
  sorted : (xs : List X) → IsStrictlySortedBy R xs → IsSortedBy (λ a b. is_lt (R a b)) xs
  sorted xs s k d low h = ap is_lt (o.antisymm (get_or xs (k + 1) d) (get_or xs k d) ∙ ap ordering_reverse (Less-from_sorted R xs k (k + 1) d s (omega arith) h))

  -- a search in a sorted list finds an element exactly where one is equal
  pub found : (xs : List X) (x : X) (r : Result ℕ ℕ) → IsStrictlySortedBy R xs → IsSearchInRange r (length xs) → IsBinarySearchResult (λ y. R y x) xs r → is_ok r ≡ list_any (λ y. is_eq (R y x)) xs
  found xs x (Ok i) s b h = sym (list_any_at (λ y. is_eq (R y x)) xs i x b (ap is_eq (h x)))
  found xs x (Err i) s b h =
      let parts = h (searchable_from_sorted o (λ y. y) xs x (sorted xs s)) in
      sym (list_any_none (λ y. is_eq (R y x)) xs (λ k d inside. elim (cases_lt k i) [ inl l ↦ ap is_eq (parts.0 k d (omega arith) l) | inr l ↦ ap is_eq (parts.1 k d l inside) ]))

module _ {X : Type 0} (E : X → X → Bool) (p : X → Bool) (same : (x y : X) → E x y ≡ true → p x ≡ p y) where
  or_same : (a b c : Bool) → a ≡ b → (a || (b || c)) ≡ (a || c)
  or_same true b c e = refl
  or_same false b c e = ap (λ d. d || c) (sym e)

  from_test : (t : Bool) (k x : X) (xs : List X) → E x k ≡ t → list_any p (dedup_from E k xs) ≡ (p k || list_any p xs) → list_any p (dedup_from E x xs) ≡ (p x || list_any p xs) →
      list_any p (cond t (dedup_from E k xs) (k ∷ dedup_from E x xs)) ≡ (p k || (p x || list_any p xs))
  from_test true k x xs e here next = here ∙ sym (or_same (p k) (p x) (list_any p xs) (sym (same x k e)))
  from_test false k x xs e here next = ap (λ b. p k || b) next

  any_from : (k : X) (xs : List X) → list_any p (dedup_from E k xs) ≡ (p k || list_any p xs)
  any_from k [] = refl
  any_from k (x ∷ xs) = from_test (E x k) k x xs refl (any_from k xs) (any_from x xs)

  any_dedup : (xs : List X) → list_any p (dedup E xs) ≡ list_any p xs
  any_dedup [] = refl
  any_dedup (x ∷ xs) = any_from x xs

tied : (r : Ordering) → is_eq r ≡ true → r ≡ Equal
tied Less e = absurd (cc)
tied Equal e = refl
tied Greater e = absurd (cc)

-- after a sort and a `dedup` an element passes a test exactly where one did, if the test answers the same of equal elements
pub any_kept : {X : Type 0} {R : X → X → Ordering} {E : X → X → Bool} (ties : (x y : X) → E x y ≡ eq_by_cmp R x y) (xs ys zs : List X) → IsPermutation xs ys → IsFiltered (DiffersFromLast E) [] ys zs →
    (p : X → Bool) → ((a b : X) → R a b ≡ Equal → p a ≡ p b) → list_any p zs ≡ list_any p xs
any_kept {X} {R} {E} ties xs ys zs moved kept p alike =
    let same : (a b : X) → E a b ≡ true → p a ≡ p b = λ a b e. alike a b (tied (R a b) (sym (ties a b) ∙ e)) in
    ap (list_any p) (dedup_is E ys zs kept) ∙ any_dedup E p same ys ∙ sym (list_any-IsPermutation p xs ys moved)

pub kept_sorted : {X : Type 0} {R : X → X → Ordering} (o : IsTotalOrder R) {E : X → X → Bool} (ties : (x y : X) → E x y ≡ eq_by_cmp R x y) (ys zs : List X) → IsSorted R ys → IsFiltered (DiffersFromLast E) [] ys zs → IsStrictlySortedBy R zs
kept_sorted {X} {R} o {E} ties ys zs s kept = rw (dedup_is E ys zs kept) (IsStrictlySortedBy-dedup o ties ys s)
