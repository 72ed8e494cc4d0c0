-- Walks over the numbers of a check.
use Rattle.std.proofs.Common.{ℕ, zero, suc, add-one, ◌≡◌, ◌∙◌, ◌+◌, ◌*◌, ◌<◌, ◌≤◌, sym, ap, refl, arith, length, get_or, drop, slice_index, nat_lt, nat_le, nat_eq, Bool, true, false, cond, ◌&&◌, List, [], ◌∷◌, Option, Some}
use Rattle.std.specs.List.{list_all}
use Rattle.std.proofs.lemmas.Bool.{and_parts}
use Rattle.std.proofs.Math.Seq.{drop-cons}
use Rattle.std.proofs.lemmas.List.Recursion.{is_count_by}
use Rattle.std.proofs.lemmas.List.{length-map}
use Rattle.vx_rows.specs.declared.value.Value.{Value}
use Rattle.vx_base.specs.Numbers.{numbers_of, row_int, magnitude}
use Rattle.vx_base.specs.Checks.{each_next, strictly_increasing, non_decreasing, all_within, counts_below, selectors_within, count_below}
use Rattle.std.specs.List.Sorted.{IsStrictlyIncreasing, IsNonDecreasing}

-- what is left of a list at a place in it
pub rest_at : {X : Type 0} (xs : List X) (i : ℕ) (d : X) → i < length xs → drop i xs ≡ get_or xs i d ∷ drop (i + 1) xs
rest_at xs i d h = rw add-one (drop-cons xs i d h)

pub rest_none : {X : Type 0} (xs : List X) (i : ℕ) → length xs ≤ i → drop i xs ≡ []
rest_none [] zero h = refl
rest_none [] (suc i) h = refl
rest_none (x ∷ xs) zero h = absurd (omega arith)
rest_none (x ∷ xs) (suc i) h = rest_none xs i (omega arith)

-- no two neighbours are left at the end
pub each_next_end : (test : ℕ → ℕ → Bool) (xs : List ℕ) (i : ℕ) → length xs ≤ i + 1 → each_next test (drop i xs) ≡ true
each_next_end test [] zero h = refl
each_next_end test [] (suc i) h = refl
each_next_end test (x ∷ []) zero h = refl
each_next_end test (x ∷ y ∷ ys) zero h = absurd (omega arith)
each_next_end test (x ∷ xs) (suc i) h = each_next_end test xs i (omega arith)

-- the first two of what is left
pub each_next_at : (test : ℕ → ℕ → Bool) (xs : List ℕ) (i : ℕ) → suc i < length xs
    → each_next test (drop i xs) ≡ (test (slice_index xs i) (slice_index xs (suc i)) && each_next test (drop (suc i) xs))
each_next_at test [] i h = absurd (omega arith)
each_next_at test (x ∷ []) i h = absurd (omega arith)
each_next_at test (x ∷ y ∷ ys) zero h = refl
each_next_at test (x ∷ y ∷ ys) (suc i) h = each_next_at test (y ∷ ys) i (omega arith)

pub list_all_rest : {X : Type 0} (p : X → Bool) (xs : List X) (i : ℕ) (d : X) → i < length xs → list_all p (drop i xs) ≡ (p (get_or xs i d) && list_all p (drop (i + 1) xs))
list_all_rest p xs i d h = ap (list_all p) (rest_at xs i d h)

pub list_all_end : {X : Type 0} (p : X → Bool) (xs : List X) (i : ℕ) → length xs ≤ i → list_all p (drop i xs) ≡ true
list_all_end p xs i h = ap (list_all p) (rest_none xs i h)

pub length_numbers : (rs : List (Option Value)) → length (numbers_of rs) ≡ length rs
length_numbers rs = length-map rs (λ r. magnitude (row_int r))

-- ---- what the tests of order say

from_lt : (n m : ℕ) → nat_lt n m ≡ true → n < m
from_lt n m e = grind (arith, e)

from_le : (n m : ℕ) → nat_le n m ≡ true → n ≤ m
from_le n m e = grind (arith, e)

rising : (xs : List ℕ) → strictly_increasing xs ≡ true → (k : ℕ) → suc k < length xs → slice_index xs k < slice_index xs (suc k)
rising [] e k h = absurd (omega arith)
rising (x ∷ []) e k h = absurd (omega arith)
rising (x ∷ y ∷ ys) e zero h = from_lt x y (and_parts (nat_lt x y) (strictly_increasing (y ∷ ys)) e).0
rising (x ∷ y ∷ ys) e (suc k) h = rising (y ∷ ys) (and_parts (nat_lt x y) (strictly_increasing (y ∷ ys)) e).1 k (omega arith)

is_rising : (xs : List ℕ) → ((k : ℕ) → suc k < length xs → slice_index xs k < slice_index xs (suc k)) → strictly_increasing xs ≡ true
is_rising [] h = refl
is_rising (x ∷ []) h = refl
is_rising (x ∷ y ∷ ys) h =
    let first : x < y = h 0 (omega arith) in
    let here : nat_lt x y ≡ true = grind arith in
    rw here (is_rising (y ∷ ys) (λ k a. h (suc k) (omega arith)))

pub strictly_increasing-says : (xs : List ℕ) → strictly_increasing xs ≡ true → IsStrictlyIncreasing xs
strictly_increasing-says xs e = λ k h. rw add-one (rising xs e k (omega arith))

pub says-strictly_increasing : (xs : List ℕ) → IsStrictlyIncreasing xs → strictly_increasing xs ≡ true
says-strictly_increasing xs h = is_rising xs (λ k a. let at = h k (omega arith) in rw add-one at at)

pub non_decreasing-says : (xs : List ℕ) → non_decreasing xs ≡ true → IsNonDecreasing xs
non_decreasing-says [] e i j d h k = absurd (omega arith)
non_decreasing-says (x ∷ ys) e zero zero d h k = omega arith
non_decreasing-says (x ∷ ys) e (suc i) zero d h k = absurd (omega arith)
non_decreasing-says (x ∷ []) e i (suc j) d h k = absurd (omega arith)
non_decreasing-says (x ∷ y ∷ ys) e zero (suc j) d h k =
    let p = and_parts (nat_le x y) (non_decreasing (y ∷ ys)) e in
    let first : x ≤ y = from_le x y p.0 in
    let rest : y ≤ get_or (y ∷ ys) j d = non_decreasing-says (y ∷ ys) p.1 0 j d (omega arith) (omega arith) in
    omega arith
non_decreasing-says (x ∷ y ∷ ys) e (suc i) (suc j) d h k = non_decreasing-says (y ∷ ys) (and_parts (nat_le x y) (non_decreasing (y ∷ ys)) e).1 i j d (omega arith) (omega arith)

pub says-non_decreasing : (xs : List ℕ) → IsNonDecreasing xs → non_decreasing xs ≡ true
says-non_decreasing [] h = refl
says-non_decreasing (x ∷ []) h = refl
says-non_decreasing (x ∷ y ∷ ys) h =
    let first : x ≤ y = h 0 1 0 (omega arith) (omega arith) in
    let here : nat_le x y ≡ true = grind arith in
    rw here (says-non_decreasing (y ∷ ys) (λ i j d a b. h (suc i) (suc j) d (omega arith) (omega arith)))

-- ---- counts

abbrev below_in : ℕ → List ℕ → ℕ
below_in bound [] = 0
below_in bound (x ∷ xs) = cond (nat_lt x bound) (1 + below_in bound xs) (below_in bound xs)

below_in_at : (bound : ℕ) (xs : List ℕ) (i : ℕ) → i ≤ length xs → ((k : ℕ) → k < i → slice_index xs k < bound)
    → ((k : ℕ) → i ≤ k → k < length xs → bound ≤ slice_index xs k) → below_in bound xs ≡ i
below_in_at bound [] i h front back = omega arith
below_in_at bound (x ∷ xs) zero h front back =
    let above : bound ≤ x = back 0 (omega arith) (omega arith) in
    let no : nat_lt x bound ≡ false = grind arith in
    rw no (below_in_at bound xs zero (omega arith) (λ k a. absurd (omega arith)) (λ k a b. back (suc k) (omega arith) (omega arith)))
below_in_at bound (x ∷ xs) (suc i) h front back =
    let under : x < bound = front 0 (omega arith) in
    let yes : nat_lt x bound ≡ true = grind arith in
    rw yes (omega (arith, below_in_at bound xs i (omega arith) (λ k a. front (suc k) (omega arith)) (λ k a b. back (suc k) (omega arith) (omega arith))))

-- where the numbers don't fall, the count is the first place that isn't below
pub count_at : (bound : ℕ) (xs : List ℕ) (i : ℕ) → non_decreasing xs ≡ true → i ≤ length xs → ((k : ℕ) → k < i → slice_index xs k < bound)
    → (i < length xs → bound ≤ slice_index xs i) → count_below bound xs ≡ i
count_at bound xs i up h front stops =
    sym (is_count_by (below_in bound) (λ x. nat_lt x bound) refl (λ x ys. refl) xs)
    ∙ below_in_at bound xs i h front (λ k a b. let at = non_decreasing-says xs up i k 0 a b in let here : bound ≤ slice_index xs i = stops (omega arith) in omega arith)

pub counts_at : (chunk : ℕ) (os xs : List ℕ) (i : ℕ) → i < length os
    → counts_below (chunk + i) (drop i os) xs ≡ (nat_eq (slice_index os i) (count_below (1024 * (chunk + i)) xs) && counts_below (chunk + (i + 1)) (drop (i + 1) os) xs)
counts_at chunk os xs i h =
    let next : chunk + i + 1 ≡ chunk + (i + 1) = omega arith in
    ap (λ rest. counts_below (chunk + i) rest xs) (rest_at os i 0 h) ∙ ap (λ n. nat_eq (slice_index os i) (count_below (1024 * (chunk + i)) xs) && counts_below n (drop (i + 1) os) xs) next

pub counts_end : (chunk : ℕ) (os xs : List ℕ) (i : ℕ) → length os ≤ i → counts_below chunk (drop i os) xs ≡ true
counts_end chunk os xs i h = ap (λ rest. counts_below chunk rest xs) (rest_none os i h)

-- ---- selectors

pub selectors_at : (ns rs ls : List ℕ) (i : ℕ) → i < length ns → i < length rs
    → selectors_within (drop i ns) (drop i rs) ls ≡ (nat_lt (slice_index rs i) (slice_index ls (slice_index ns i)) && selectors_within (drop (i + 1) ns) (drop (i + 1) rs) ls)
selectors_at ns rs ls i h k = ap (λ rest. selectors_within rest (drop i rs) ls) (rest_at ns i 0 h) ∙ ap (λ rest. selectors_within (slice_index ns i ∷ drop (i + 1) ns) rest ls) (rest_at rs i 0 k)

pub selectors_end : (ns rs ls : List ℕ) (i : ℕ) → length ns ≤ i → selectors_within (drop i ns) rs ls ≡ true
selectors_end ns rs ls i h = ap (λ rest. selectors_within rest rs ls) (rest_none ns i h)

-- a number of a list whose numbers are within bounds
pub within_at : (lo hi : ℕ) (xs : List ℕ) (i : ℕ) → all_within lo (Some hi) xs ≡ true → i < length xs → slice_index xs i < hi
within_at lo hi [] i e h = absurd (omega arith)
within_at lo hi (x ∷ xs) zero e h =
    from_lt x hi (and_parts (nat_le lo x) (nat_lt x hi) (and_parts (nat_le lo x && nat_lt x hi) (all_within lo (Some hi) xs) e).0).1
within_at lo hi (x ∷ xs) (suc i) e h = within_at lo hi xs i (and_parts (nat_le lo x && nat_lt x hi) (all_within lo (Some hi) xs) e).1 (omega arith)
