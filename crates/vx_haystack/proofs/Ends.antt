-- The least and the greatest of numbers.
use Rattle.std.proofs.Common.{ℕ, ℤ, zero, suc, ◌≡◌, ◌∙◌, ◌<◌, ◌+◌, ap, sym, arith, List, [], ◌∷◌, length, take, map, get_or, pos}
use Rattle.std.specs.Int.{int_max, int_min}
use Rattle.std.proofs.lemmas.List.{take-map, get_or-map, length-map}
use Rattle.std.proofs.lemmas.List.Sums.{fold_more}
use Rattle.vx_haystack.specs.Integers.{least, greatest}

least_step : (zs : List ℤ) (i : ℕ) → 0 < i → i < length zs → least (take (i + 1) zs) ≡ int_min (least (take i zs)) (get_or zs i (pos 0))
least_step [] i o h = absurd (omega arith)
least_step (z ∷ zs) zero o h = absurd (omega arith)
least_step (z ∷ zs) (suc i) o h =
    let e : suc i + 1 ≡ suc (i + 1) = omega arith in
    ap (λ n. least (take n (z ∷ zs))) e ∙ fold_more int_min z zs i (pos 0) (omega arith)

greatest_step : (zs : List ℤ) (i : ℕ) → 0 < i → i < length zs → greatest (take (i + 1) zs) ≡ int_max (greatest (take i zs)) (get_or zs i (pos 0))
greatest_step [] i o h = absurd (omega arith)
greatest_step (z ∷ zs) zero o h = absurd (omega arith)
greatest_step (z ∷ zs) (suc i) o h =
    let e : suc i + 1 ≡ suc (i + 1) = omega arith in
    ap (λ n. greatest (take n (z ∷ zs))) e ∙ fold_more int_max z zs i (pos 0) (omega arith)

module _ {T : Type 0} (number : T → ℤ) (xs : List T) (i : ℕ) (x : T) (o : 0 < i) (h : i < length xs) where
  at : get_or (map number xs) i (pos 0) ≡ number (get_or xs i x)
  at = get_or-map number xs i x (pos 0) h

  inside : i < length (map number xs)
  inside = omega (arith, length-map xs number)

  -- the least value so far, and one more
  pub least_more : (a b : ℤ) → a ≡ least (map number (take i xs)) → b ≡ int_min a (number (get_or xs i x)) → b ≡ least (map number (take (i + 1) xs))
  least_more a b so_far next =
      next ∙ (λ j. int_min ((so_far ∙ ap least (sym (take-map number i xs))) j) (sym at j)) ∙ sym (least_step (map number xs) i o inside) ∙ ap least (take-map number (i + 1) xs)

  pub greatest_more : (a b : ℤ) → a ≡ greatest (map number (take i xs)) → b ≡ int_max a (number (get_or xs i x)) → b ≡ greatest (map number (take (i + 1) xs))
  greatest_more a b so_far next =
      next ∙ (λ j. int_max ((so_far ∙ ap greatest (sym (take-map number i xs))) j) (sym at j)) ∙ sym (greatest_step (map number xs) i o inside) ∙ ap greatest (take-map number (i + 1) xs)
