-- Counts below a bound, in lists that rise strictly.
use Rattle.std.proofs.Common.{◌≡◌, ℕ, zero, suc, ◌+◌, ◌-◌, ◌≤◌, ◌<◌, ◌⊎◌, inl, inr, min, true, false, cond, List, [], ◌∷◌, drop, length, get_or, map, nat_lt, refl, sym, ◌∙◌, ap, arith}
use Rattle.std.specs.Prelude.{slice_range}
use Rattle.std.specs.List.Sorted.{IsStrictlyIncreasing}
use Rattle.std.proofs.lemmas.Bool.{cases_lt, cases_order}
use Rattle.std.proofs.lemmas.Bool.Decides.{nat_tests}
use Rattle.std.proofs.lemmas.List.{length-take, length-drop, get_or-take, get_or-drop}
use Rattle.std.proofs.lemmas.List.Recursion.{is_count_by}
use Rattle.vx_base.specs.Checks.{count_below}

-- each number lies below all that follow
abbrev pub Rising : List ℕ → Type 0
Rising xs = (i j : ℕ) → i < j → j < length xs → get_or xs i 0 < get_or xs j 0

pub rise_by : (xs : List ℕ) → IsStrictlyIncreasing xs → (i k : ℕ) → i + k < length xs → get_or xs i 0 + k ≤ get_or xs (i + k) 0
rise_by xs r i zero h = omega (arith, ap (λ n. get_or xs n 0) (the (i + 0 ≡ i) (omega arith)))
  where
    the : (A : Type 0) → A → A
    the A a = a
rise_by xs r i (suc k) h =
    let one : get_or xs (i + k) 0 < get_or xs (i + k + 1) 0 = r (i + k) (omega arith) in
    let same : i + suc k ≡ i + k + 1 = omega arith in
    omega (arith, rise_by xs r i k (omega arith), one, ap (λ n. get_or xs n 0) same)

pub rise-le : (xs : List ℕ) → IsStrictlyIncreasing xs → (i j : ℕ) → i ≤ j → j < length xs → get_or xs i 0 + (j - i) ≤ get_or xs j 0
rise-le xs r i j h l =
    let same : i + (j - i) ≡ j = omega arith in
    omega (arith, rise_by xs r i (j - i) (omega arith), ap (λ n. get_or xs n 0) same)

pub Rising-from_increasing : (xs : List ℕ) → IsStrictlyIncreasing xs → Rising xs
Rising-from_increasing xs r i j h l = omega (arith, rise-le xs r i j (omega arith) l)

pub tail : (x : ℕ) (xs : List ℕ) → Rising (x ∷ xs) → Rising xs
tail x xs r i j h l = r (suc i) (suc j) (omega arith) (omega arith)

lt_true : (x v : ℕ) → x < v → nat_lt x v ≡ true
lt_true x v h = grind (arith, nat_tests)

lt_false : (x v : ℕ) → v ≤ x → nat_lt x v ≡ false
lt_false x v h = grind (arith, nat_tests)

-- a count by recursion
abbrev pub below : ℕ → List ℕ → ℕ
below v [] = 0
below v (x ∷ xs) = cond (nat_lt x v) (1 + below v xs) (below v xs)

pub by_recursion : (v : ℕ) (xs : List ℕ) → below v xs ≡ count_below v xs
by_recursion v xs = is_count_by (below v) (λ x. nat_lt x v) refl (λ x ys. refl) xs

pub count_yes : (v x : ℕ) (xs : List ℕ) → x < v → count_below v (x ∷ xs) ≡ count_below v xs + 1
count_yes v x xs h = sym (by_recursion v (x ∷ xs)) ∙ ap (λ b. cond b (1 + below v xs) (below v xs)) (lt_true x v h) ∙ omega (arith, by_recursion v xs)

pub count_no : (v x : ℕ) (xs : List ℕ) → v ≤ x → count_below v (x ∷ xs) ≡ count_below v xs
count_no v x xs h = sym (by_recursion v (x ∷ xs)) ∙ ap (λ b. cond b (1 + below v xs) (below v xs)) (lt_false x v h) ∙ by_recursion v xs

pub count-le-length : (v : ℕ) (xs : List ℕ) → count_below v xs ≤ length xs
count-le-length v [] = omega arith
count-le-length v (x ∷ xs) = elim (cases_lt x v) as (λ _. count_below v (x ∷ xs) ≤ length (x ∷ xs))
    [ inl h ↦ omega (arith, count_yes v x xs h, count-le-length v xs) | inr h ↦ omega (arith, count_no v x xs h, count-le-length v xs) ]

below_case : (v x : ℕ) (xs : List ℕ) → Rising (x ∷ xs) → ((k : ℕ) → k < count_below v xs → get_or xs k 0 < v) → (x < v) ⊎ (v ≤ x) → (k : ℕ) → k < count_below v (x ∷ xs) → get_or (x ∷ xs) k 0 < v
below_case v x xs r ih (inl h) zero l = h
below_case v x xs r ih (inl h) (suc k) l = ih k (omega (arith, count_yes v x xs h))
below_case v x xs r ih (inr h) k l =
    let inside : k < count_below v xs = omega (arith, count_no v x xs h) in
    absurd (omega (arith, ih k inside, r 0 (suc k) (omega arith) (omega (arith, count-le-length v xs))))

-- what stands before the count lies below
pub below_count : (v : ℕ) (xs : List ℕ) → Rising xs → (k : ℕ) → k < count_below v xs → get_or xs k 0 < v
below_count v [] r k h = absurd (omega arith)
below_count v (x ∷ xs) r k h = below_case v x xs r (below_count v xs (tail x xs r)) (cases_lt x v) k h

above_case : (v x : ℕ) (xs : List ℕ) → Rising (x ∷ xs) → ((k : ℕ) → count_below v xs ≤ k → k < length xs → v ≤ get_or xs k 0) → (x < v) ⊎ (v ≤ x) → (k : ℕ) → count_below v (x ∷ xs) ≤ k → k < length (x ∷ xs) → v ≤ get_or (x ∷ xs) k 0
above_case v x xs r ih (inl h) zero l w = absurd (omega (arith, count_yes v x xs h))
above_case v x xs r ih (inl h) (suc k) l w = ih k (omega (arith, count_yes v x xs h)) (omega arith)
above_case v x xs r ih (inr h) zero l w = h
above_case v x xs r ih (inr h) (suc k) l w = omega (arith, r 0 (suc k) (omega arith) w)

-- what stands from the count on does not
pub above_count : (v : ℕ) (xs : List ℕ) → Rising xs → (k : ℕ) → count_below v xs ≤ k → k < length xs → v ≤ get_or xs k 0
above_count v [] r k h l = absurd (omega arith)
above_count v (x ∷ xs) r k h l = above_case v x xs r (above_count v xs (tail x xs r)) (cases_lt x v) k h l

-- the count is the place of the border
pub count_is : (v : ℕ) (xs : List ℕ) → Rising xs → (p : ℕ) → p ≤ length xs → (0 < p → get_or xs (p - 1) 0 < v) → (p < length xs → v ≤ get_or xs p 0) → count_below v xs ≡ p
count_is v xs r p w low high = elim (cases_order (count_below v xs) p) as (λ _. count_below v xs ≡ p) [
  | inl same ↦ same
  | inr (inl less) ↦ absurd (omega (arith, above_count v xs r (p - 1) (omega arith) (omega arith), low (omega arith)))
  | inr (inr more) ↦ absurd (omega (arith, below_count v xs r p more, high (omega (arith, count-le-length v xs))))
]

pub count-le : (u v : ℕ) (xs : List ℕ) → Rising xs → u ≤ v → count_below u xs ≤ count_below v xs
count-le u v xs r h = elim (cases_lt (count_below v xs) (count_below u xs)) as (λ _. count_below u xs ≤ count_below v xs) [
  | inl less ↦ absurd (omega (arith, below_count u xs r (count_below v xs) less, above_count v xs r (count_below v xs) (omega arith) (omega (arith, count-le-length u xs))))
  | inr more ↦ more
]

-- at most as many numbers lie between two bounds as the bounds are apart
pub count-span : (v n : ℕ) (xs : List ℕ) → IsStrictlyIncreasing xs → count_below (v + n) xs ≤ count_below v xs + n
count-span v n xs r = elim (cases_lt (count_below v xs + n) (count_below (v + n) xs)) as (λ _. count_below (v + n) xs ≤ count_below v xs + n) [
  | inl more ↦
      let rising = Rising-from_increasing xs r in
      let low = count_below v xs in
      let in_list : low + n < length xs = omega (arith, count-le-length (v + n) xs) in
      absurd (omega (arith, below_count (v + n) xs rising (low + n) more, above_count v xs rising low (omega arith) (omega arith), rise_by xs r low n in_list))
  | inr less ↦ less
]

-- parts of lists
pub get_or-slice : {X : Type 0} (xs : List X) (p q i : ℕ) (d : X) → i < q - p → get_or (slice_range xs p q) i d ≡ get_or xs (p + i) d
get_or-slice xs p q i d h = get_or-take (q - p) (drop p xs) i d h ∙ get_or-drop p xs i d

pub length-slice : {X : Type 0} (xs : List X) (p q : ℕ) → q ≤ length xs → length (slice_range xs p q) ≡ q - p
length-slice xs p q h = omega (arith, length-take (q - p) (drop p xs), length-drop p xs)

pub increasing_slice : (xs : List ℕ) (p q : ℕ) → q ≤ length xs → IsStrictlyIncreasing xs → IsStrictlyIncreasing (slice_range xs p q)
increasing_slice xs p q h r k l =
    let inside : k + 1 < q - p = omega (arith, length-slice xs p q h) in
    let same : p + (k + 1) ≡ p + k + 1 = omega arith in
    omega (arith, get_or-slice xs p q k 0 (omega arith), get_or-slice xs p q (k + 1) 0 inside, r (p + k) (omega arith), ap (λ n. get_or xs n 0) same)

-- the count in a part: the count in the whole, which saturates at the part's ends
pub count-slice : (v : ℕ) (xs : List ℕ) → IsStrictlyIncreasing xs → (p q : ℕ) → p ≤ q → q ≤ length xs → count_below v (slice_range xs p q) ≡ min (count_below v xs - p) (q - p)
count-slice v xs r p q h l =
    let whole = Rising-from_increasing xs r in
    let part = slice_range xs p q in
    let rising : Rising part = Rising-from_increasing part (increasing_slice xs p q l r) in
    let all = count_below v xs in
    let place = min (all - p) (q - p) in
    let long : length part ≡ q - p = length-slice xs p q l in
    count_is v part rising place (omega arith)
    (λ some. omega (arith, get_or-slice xs p q (place - 1) 0 (omega arith), below_count v xs whole (p + (place - 1)) (omega arith)))
    (λ some. omega (arith, get_or-slice xs p q place 0 (omega arith), above_count v xs whole (p + place) (omega arith) (omega arith)))

-- rows
pub count-rows : (v offset : ℕ) (xs : List ℕ) → ((k : ℕ) → k < length xs → offset ≤ get_or xs k 0) → count_below v (map (λ n. n - offset) xs) ≡ count_below (v + offset) xs
count-rows v offset [] h = refl
count-rows v offset (x ∷ xs) h =
    let here : offset ≤ x = h 0 (omega arith) in
    let rest = count-rows v offset xs (λ k l. h (suc k) (omega arith)) in
    let ys = map (λ n. n - offset) xs in
    elim (cases_lt x (v + offset)) as (λ _. count_below v (map (λ n. n - offset) (x ∷ xs)) ≡ count_below (v + offset) (x ∷ xs)) [
      | inl less ↦ omega (arith, rest, count_yes v (x - offset) ys (omega arith), count_yes (v + offset) x xs less)
      | inr more ↦ omega (arith, rest, count_no v (x - offset) ys (omega arith), count_no (v + offset) x xs more)
    ]

pub above_first : (offset : ℕ) (xs : List ℕ) → IsStrictlyIncreasing xs → offset ≤ get_or xs 0 0 → (k : ℕ) → k < length xs → offset ≤ get_or xs k 0
above_first offset xs r h k l = omega (arith, rise-le xs r 0 k (omega arith) l)

pub below_last : (bound : ℕ) (xs : List ℕ) → IsStrictlyIncreasing xs → get_or xs (length xs - 1) 0 < bound → (k : ℕ) → k < length xs → get_or xs k 0 < bound
below_last bound xs r h k l = omega (arith, rise-le xs r k (length xs - 1) (omega arith) (omega arith))
