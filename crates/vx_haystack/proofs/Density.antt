-- Whether values are dense, from what the code computes.
use Rattle.std.proofs.Common.{ℕ, ℤ, pos, ◌≡◌, ◌∙◌, ◌<◌, ◌-◌, ◌*◌, ◌-ℤ◌, ◌≤ℤ◌, ◌&&◌, ◌||◌, ap, sym, refl, subst, arith, Bool, true, false, cond, List, [], ◌∷◌, length, map, nat_lt, unsigned_abs, Some, None}
use Rattle.std.specs.List.{list_any}
use Rattle.std.specs.declared.cmp.Ordering.{Ordering}
use Rattle.std.specs.declared.cmp.Ordering.TheVariants.{Equal}
use Rattle.std.specs.Ordering.{int_eq, int_cmp}
use Rattle.std.proofs.lemmas.Bool.Decides.{nat_tests}
use Rattle.std.proofs.lemmas.Int.{ints}
use Rattle.std.proofs.lemmas.List.{length-map}
use Rattle.std.proofs.lemmas.Map.Lookups.{exact_signed}
use Rattle.vx_haystack.specs.Integers.{least, greatest, span, is_dense, is_dense_span, holds, offset, distance, as_usize}
use Rattle.vx_haystack.proofs.Marks.{within_ends, place_is, le_after}

through : (a b c : ℤ) → a ≤ℤ b → b ≤ℤ c → a ≤ℤ c
through a b c p q = omega (arith, ints)

least_below : (zs : List ℤ) → 0 < length zs → least zs ≤ℤ greatest zs
least_below zs h = let here = within_ends zs 0 (pos 0) h in through _ _ _ here.0 here.1

module _ {T : Type 0} (number : T → ℤ) (xs : List T) (count : ℕ) (a b : ℤ) (some : true ≡ nat_lt 0 (length xs)) (low : b ≡ least (map number xs)) (high : a ≡ greatest (map number xs)) where
  some_numbers : nat_lt 0 (length (map number xs)) ≡ true
  some_numbers = ap (nat_lt 0) (length-map xs number) ∙ sym some

  positive : (n : ℕ) → nat_lt 0 n ≡ true → 0 < n
  positive n h = grind (arith, nat_tests)

  below : b ≤ℤ a
  below = subst (λ x. x ≤ℤ a) (sym low) (subst (λ x. least (map number xs) ≤ℤ x) (sym high) (least_below (map number xs) (positive (length (map number xs)) some_numbers)))

  width : unsigned_abs (a -ℤ b) ≡ span (map number xs)
  width = λ i. unsigned_abs (high i -ℤ low i)

  pub span_is : (n : ℕ) → offset count a b ≡ Some n → n ≡ span (map number xs)
  span_is n e = place_is count a b n e below ∙ width

  pub dense_is : (n : ℕ) → offset count a b ≡ Some n → is_dense_span n (length xs) ≡ is_dense (map number xs)
  dense_is n e =
      (λ i. is_dense_span (span_is n e i) (sym (length-map xs number) i)) ∙ ap (λ t. t && is_dense_span (span (map number xs)) (length (map number xs))) (sym some_numbers)

  wide_fails : (n m : ℕ) → as_usize n ≡ None → is_dense_span n m ≡ false
  wide_fails n m e = by_test (nat_lt n 18446744073709551616) refl e
    where
      by_test : (t : Bool) → nat_lt n 18446744073709551616 ≡ t → cond t (Some n) None ≡ None → is_dense_span n m ≡ false
      by_test true h f = absurd (cc)
      by_test false h f = ap (λ t. t && (nat_lt n 4096 || nat_lt n (64 * m))) (shorter n h)
        where
          shorter : (n : ℕ) → nat_lt n 18446744073709551616 ≡ false → nat_lt n 18446744073709551615 ≡ false
          shorter n h = grind (arith, nat_tests)

  pub none_dense : offset count a b ≡ None → is_dense (map number xs) ≡ false
  none_dense e =
      let far : distance count a b ≡ span (map number xs) = ap (λ t. cond t (unsigned_abs (a -ℤ b)) (count - unsigned_abs (b -ℤ a))) (le_after b a below) ∙ width in
      ap (λ t. t && is_dense_span (span (map number xs)) (length (map number xs))) some_numbers ∙ wide_fails (span (map number xs)) (length (map number xs)) (ap as_usize (sym far) ∙ e)

-- the numbers that a sorted list holds, and those of equal values
pub holds_is : {T : Type 0} (number : T → ℤ) (xs : List T) (z : ℤ) → list_any (λ x. int_eq (number x) z) xs ≡ holds (map number xs) z
holds_is number [] z = refl
holds_is number (x ∷ xs) z = ap (λ b. int_eq (number x) z || b) (holds_is number xs z)

pub alike_numbers : (R : Ordering) (a b z : ℤ) → R ≡ int_cmp a b → R ≡ Equal → int_eq a z ≡ int_eq b z
alike_numbers R a b z e f = ap (λ x. int_eq x z) (exact_signed a b (sym e ∙ f))
