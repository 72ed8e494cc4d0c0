-- Which bits are set where each is that of a value.
use Rattle.std.proofs.Common.{ℕ, zero, suc, ℤ, ◌≡◌, ◌≢◌, inl, inr, ◌∙◌, ◌<◌, ◌≤◌, ◌+◌, ◌-◌, ◌-ℤ◌, ◌≤ℤ◌, ◌&&◌, ◌||◌, ap, sym, refl, subst, arith, Bool, true, false, cond, List, [], ◌∷◌, length, take, map, get_or, int_le, nat_lt, nat_eq, unsigned_abs, Some, None}
use Rattle.std.specs.List.{list_any, All, fold}
use Rattle.std.specs.Ordering.{int_eq}
use Rattle.std.specs.Int.{int_max, int_min}
use Rattle.std.proofs.lemmas.Bool.{and_parts, cases_eq}
use Rattle.std.proofs.lemmas.Bool.Decides.{nat_tests, same_from_decides, Decides-int_eq, Decides-eqb}
use Rattle.std.proofs.lemmas.Int.{ints, fold-int_max_bounds, fold-int_min_bounds}
use Rattle.std.proofs.lemmas.List.{get_or-map, length-map}
use Rattle.std.proofs.lemmas.List.Folds.{list_any_more}
use Rattle.std.specs.Bool.{Decides}
use Rattle.vx_haystack.specs.Integers.{least, greatest, span, holds, offset, distance, as_usize}
use Rattle.vx_haystack.specs.Numbers.{is_marked}
use Rattle.vx_haystack.specs.Words.{has_bit}

-- a number from the least on, by at most the span
abbrev pub IsWithin : ℤ → ℕ → ℤ → Type 0
IsWithin min width z = (min ≤ℤ z) × (unsigned_abs (z -ℤ min) ≤ width)

-- whether a place is that of some value, above the least
abbrev pub is_place : {T : Type 0} → (T → ℤ) → ℤ → List T → ℕ → Bool
is_place number min xs i = list_any (λ x. nat_eq i (unsigned_abs (number x -ℤ min))) xs

any_swap : (a b : Bool) → (a || b) ≡ (b || a)
any_swap true true = refl
any_swap true false = refl
any_swap false true = refl
any_swap false false = refl

-- the bits of the values so far, and of one more
pub place_more : {T : Type 0} (number : T → ℤ) (min : ℤ) (xs : List T) (k : ℕ) (x d : T) (before now : List ℕ) → k < length xs → x ≡ get_or xs k d →
    ((i : ℕ) → has_bit before i ≡ is_place number min (take k xs) i) → ((i : ℕ) → has_bit now i ≡ (nat_eq i (unsigned_abs (number x -ℤ min)) || has_bit before i)) →
    (i : ℕ) → has_bit now i ≡ is_place number min (take (k + 1) xs) i
place_more {T} number min xs k x d before now h at so_far next i =
    let test : T → Bool = λ y. nat_eq i (unsigned_abs (number y -ℤ min)) in
    next i ∙ any_swap (test x) (has_bit before i) ∙ (λ j. so_far i j || test (at j)) ∙ sym (list_any_more test xs k d h)

pub le_after : (a b : ℤ) → a ≤ℤ b → int_le a b ≡ true
le_after a b h = grind (arith, ints)

after_le : (a b : ℤ) → int_le a b ≡ true → a ≤ℤ b
after_le a b h = grind (arith, ints)

same_place : (min y z : ℤ) → min ≤ℤ y → min ≤ℤ z → unsigned_abs (z -ℤ min) ≡ unsigned_abs (y -ℤ min) → y ≡ z
same_place min y z a b e = omega (arith, ints)

one_decides : (min y z : ℤ) (width : ℕ) → IsWithin min width y → Decides (int_le min z && (nat_lt (unsigned_abs (z -ℤ min)) (width + 1) && nat_eq (unsigned_abs (z -ℤ min)) (unsigned_abs (y -ℤ min)))) (y ≡ z)
one_decides min y z width w = (
  λ t.
      let first = and_parts (int_le min z) _ t in
      let second = and_parts (nat_lt (unsigned_abs (z -ℤ min)) (width + 1)) _ first.1 in
      same_place min y z w.0 (after_le min z first.0) ((Decides-eqb _ _).0 second.1),
  λ e. subst (λ x. (int_le min x && (nat_lt (unsigned_abs (x -ℤ min)) (width + 1) && nat_eq (unsigned_abs (x -ℤ min)) (unsigned_abs (y -ℤ min)))) ≡ true) e
      (λ i. le_after min y w.0 i && (below (unsigned_abs (y -ℤ min)) width w.1 i && (Decides-eqb (unsigned_abs (y -ℤ min)) (unsigned_abs (y -ℤ min))).1 refl i)),
)
  where
    below : (n m : ℕ) → n ≤ m → nat_lt n (m + 1) ≡ true
    below n m h = grind (arith, nat_tests)

one_any : (min y z : ℤ) (width : ℕ) → IsWithin min width y → (int_le min z && (nat_lt (unsigned_abs (z -ℤ min)) (width + 1) && nat_eq (unsigned_abs (z -ℤ min)) (unsigned_abs (y -ℤ min)))) ≡ int_eq y z
one_any min y z width w = same_from_decides _ _ (one_decides min y z width w) (Decides-int_eq y z)

both_any : {T : Type 0} (a b : Bool) (q : T → Bool) (xs : List T) → (a && (b && list_any q xs)) ≡ list_any (λ x. a && (b && q x)) xs
both_any true true q [] = refl
both_any true false q [] = refl
both_any false b q [] = refl
both_any true true q (x ∷ xs) = refl
both_any true false q (x ∷ xs) = both_any true false q xs
both_any false b q (x ∷ xs) = both_any false b q xs

alike_any : {T : Type 0} (number : T → ℤ) (min z : ℤ) (width : ℕ) (xs : List T) → All (λ x. IsWithin min width (number x)) xs →
    list_any (λ x. int_le min z && (nat_lt (unsigned_abs (z -ℤ min)) (width + 1) && nat_eq (unsigned_abs (z -ℤ min)) (unsigned_abs (number x -ℤ min)))) xs ≡ holds (map number xs) z
alike_any number min z width [] h = refl
alike_any number min z width (x ∷ xs) h =
    λ i. one_any min (number x) z width (h 0 x (omega arith)) i || alike_any number min z width xs (λ k d inside. h (suc k) d (omega arith)) i

-- the bits of all values say of each number whether it is one of them
pub marked_is : {T : Type 0} (number : T → ℤ) (min : ℤ) (width : ℕ) (xs : List T) (words : List ℕ) → All (λ x. IsWithin min width (number x)) xs → ((i : ℕ) → has_bit words i ≡ is_place number min xs i) →
    (z : ℤ) → is_marked words (width + 1) min z ≡ holds (map number xs) z
marked_is number min width xs words h bits z =
    let place = unsigned_abs (z -ℤ min) in
    ap (λ b. int_le min z && (nat_lt place (width + 1) && b)) (bits place) ∙ both_any (int_le min z) (nat_lt place (width + 1)) (λ x. nat_eq place (unsigned_abs (number x -ℤ min))) xs
    ∙ alike_any number min z width xs h

pub within_ends : (zs : List ℤ) → All (λ z. (least zs ≤ℤ z) × (z ≤ℤ greatest zs)) zs
within_ends [] k d inside = absurd (omega arith)
within_ends (z ∷ zs) k d inside =
    let low = fold-int_min_bounds z zs (fold int_min z zs) refl in
    let high = fold-int_max_bounds z zs (fold int_max z zs) refl in
    at k inside low high
  where
    at : (k : ℕ) → k < length (z ∷ zs) → (fold int_min z zs ≤ℤ z) × All (λ x. fold int_min z zs ≤ℤ x) zs → (z ≤ℤ fold int_max z zs) × All (λ x. x ≤ℤ fold int_max z zs) zs →
        (fold int_min z zs ≤ℤ get_or (z ∷ zs) k d) × (get_or (z ∷ zs) k d ≤ℤ fold int_max z zs)
    at zero h low high = (low.0, high.0)
    at (suc k) h low high = (low.1 k d (omega arith), high.1 k d (omega arith))

between : (low z high : ℤ) → low ≤ℤ z → z ≤ℤ high → unsigned_abs (z -ℤ low) ≤ unsigned_abs (high -ℤ low)
between low z high a b = omega (arith, ints)

-- each value is within the span
pub within_span : {T : Type 0} (number : T → ℤ) (xs : List T) (min : ℤ) (width : ℕ) → min ≡ least (map number xs) → width ≡ span (map number xs) → All (λ x. IsWithin min width (number x)) xs
within_span number xs min width e f k d inside =
    let zs = map number xs in
    let here = within_ends zs k (number d) (omega (arith, length-map xs number)) in
    let is : get_or zs k (number d) ≡ number (get_or xs k d) = get_or-map number xs k d (number d) inside in
    let found : IsWithin (least zs) (span zs) (get_or zs k (number d)) = (here.0, between (least zs) (get_or zs k (number d)) (greatest zs) here.0 here.1) in
    subst (λ m. IsWithin m width (number (get_or xs k d))) (sym e) (subst (λ w. IsWithin (least zs) w (number (get_or xs k d))) (sym f) (subst (λ z. IsWithin (least zs) (span zs) z) is found))

fits_is : (d n : ℕ) → as_usize d ≡ Some n → n ≡ d
fits_is d n e = by_test (nat_lt d 18446744073709551616) e
  where
    by_test : (t : Bool) → cond t (Some d) None ≡ Some n → n ≡ d
    by_test true e = sym (some_is e)
      where
        some_is : {a b : ℕ} → Some a ≡ Some b → a ≡ b
        some_is e = cc
    by_test false e = absurd (cc)

itself : (n m : ℕ) → n ≡ m → nat_eq n m ≡ true
itself n m e = (Decides-eqb n m).1 e

apart : (n m : ℕ) → n ≢ m → nat_eq n m ≡ false
apart n m other = not_true (nat_eq n m) (λ t. other ((Decides-eqb n m).0 t))
  where
    not_true : (b : Bool) → (b ≡ true → ⊥) → b ≡ false
    not_true true h = absurd (h refl)
    not_true false h = refl

-- the place of a number above another
pub place_is : (count : ℕ) (a b : ℤ) (n : ℕ) → offset count a b ≡ Some n → b ≤ℤ a → n ≡ unsigned_abs (a -ℤ b)
place_is count a b n e h =
    fits_is (distance count a b) n e ∙ ap (λ t. cond t (unsigned_abs (a -ℤ b)) (count - unsigned_abs (b -ℤ a))) (le_after b a h)

-- the bits after that of a place is set
pub set_is : (before now : List ℕ) (n m : ℕ) → n ≡ m → has_bit now n ≡ true → ((j : ℕ) → j ≢ n → has_bit now j ≡ has_bit before j) → (i : ℕ) → has_bit now i ≡ (nat_eq i m || has_bit before i)
set_is before now n m e set others i = elim (cases_eq i n) [ inl same ↦ here same | inr other ↦ elsewhere other ]
  where
    here : i ≡ n → has_bit now i ≡ (nat_eq i m || has_bit before i)
    here same = ap (has_bit now) same ∙ set ∙ ap (λ t. t || has_bit before i) (sym (itself i m (same ∙ e)))

    elsewhere : i ≢ n → has_bit now i ≡ (nat_eq i m || has_bit before i)
    elsewhere other = others i other ∙ ap (λ t. t || has_bit before i) (sym (apart i m (λ same. other (same ∙ sym e))))
