-- The least power of two, and the bound of a search.
use Rattle.std.proofs.Common.{add-one, ◌≡◌, ℕ, zero, suc, ◌+◌, ◌-◌, ◌*◌, ◌^◌, ◌≤◌, ◌<◌, Bool, true, false, cond, nat_le, refl, sym, ◌∙◌, ap, subst, arith, inl, inr, min, Result, Ok, Err, IfOk}
use Rattle.std.proofs.Math.Nat.{pow-suc, mul-le-mul_right, pow-le-pow_right}
use Rattle.std.proofs.lemmas.Bool.Decides.{nat_tests}
use Rattle.std.proofs.lemmas.Bool.{cases_eq, cases_lt}
use Rattle.vx_search.specs.Places.{power_from, search_bound}
use Rattle.vx_search.specs.Halving.{log_up, rounds}

pub lt_two_pow : (n : ℕ) → n < 2 ^ n
lt_two_pow zero = omega arith
lt_two_pow (suc n) = omega (arith, lt_two_pow n, pow-suc 2 n)

-- what holds of either branch holds of the choice
by_test : (P : ℕ → Type 0) (m n x y : ℕ) → (m ≤ n → P x) → (n < m → P y) → P (cond (nat_le m n) x y)
by_test P m n x y f g =
    let go : (b : Bool) → nat_le m n ≡ b → P (cond b x y) =
    λ b. elim b as (λ v. nat_le m n ≡ v → P (cond v x y)) [ true ↦ λ e. f (grind (arith, nat_tests)) | false ↦ λ e. g (grind (arith, nat_tests)) ] in
    go (nat_le m n) refl

power_fits : (tries c n : ℕ) → n ≤ c + tries → n ≤ 2 ^ power_from tries c n
unfolding power_from
power_fits zero c n h = omega (arith, lt_two_pow c)
power_fits (suc tries) c n h =
    by_test (λ k. n ≤ 2 ^ k) n (2 ^ c) c (power_from tries (c + 1) n) (λ e. e) (λ e. power_fits tries (c + 1) n (omega arith))

pub pow_more : (k : ℕ) → 2 ^ (k + 1) ≡ 2 * 2 ^ k
pow_more k = ap (λ n. 2 ^ n) (add-one k) ∙ omega (arith, pow-suc 2 k)

least_above : (c n k : ℕ) → c ≤ k → n ≤ 2 ^ k → 2 ^ c < n → c + 1 ≤ k
least_above c n k h e small =
    elim (cases_eq c k) as (λ _. c + 1 ≤ k) [ inl same ↦ absurd (omega (arith, ap (λ m. 2 ^ m) same)) | inr apart ↦ omega arith ]

-- it is the least
power_least : (tries c n k : ℕ) → c ≤ k → n ≤ 2 ^ k → power_from tries c n ≤ k
unfolding power_from
power_least zero c n k h e = h
power_least (suc tries) c n k h e =
    by_test (λ j. j ≤ k) n (2 ^ c) c (power_from tries (c + 1) n) (λ _. h)
    (λ small. power_least tries (c + 1) n k (least_above c n k h e small) e)

pub log_fits : (n : ℕ) → n ≤ 2 ^ log_up n
log_fits n = power_fits n 0 n (omega arith)

pub log_least : (n k : ℕ) → n ≤ 2 ^ k → log_up n ≤ k
log_least n k h = power_least n 0 n k (omega arith) h

pub log_below : (n k : ℕ) → k < log_up n → 2 ^ k < n
log_below n k h = elim (cases_lt (2 ^ k) n) as (λ _. 2 ^ k < n) [ inl less ↦ less | inr fits ↦ absurd (omega (arith, log_least n k fits)) ]

pub log_le : (m n : ℕ) → m ≤ n → log_up m ≤ log_up n
log_le m n h = log_least m (log_up n) (omega (arith, log_fits n))

-- a step on more than one place halves them
less_by_one : (s s' c : ℕ) → 1 < s → s ≤ 2 ^ c → 2 * s' ≤ s + 1 → log_up s' + 1 ≤ c
less_by_one s s' zero some fits half = absurd (omega arith)
less_by_one s s' (suc c) some fits half = omega (arith, log_least s' c (omega (arith, pow-suc 2 c)))

pub log_halved : (s s' : ℕ) → 1 < s → 2 * s' ≤ s + 1 → log_up s' + 1 ≤ log_up s
log_halved s s' some half = less_by_one s s' (log_up s) some (log_fits s) half

-- and leaves no fewer than half of them
pub log_doubled : (s s' : ℕ) → s ≤ 2 * s' → log_up s ≤ log_up s' + 1
log_doubled s s' h = log_least s (log_up s' + 1) (omega (arith, pow_more (log_up s'), log_fits s'))

-- the rise of one more question
pub spent_more : (now next old cost : ℕ) (s s' n : ℕ) → 1 < s → 2 * s' ≤ s + 1 → now + log_up s * cost ≤ old + log_up n * cost → next ≤ now + cost
    → next + log_up s' * cost ≤ old + log_up n * cost
spent_more now next old cost s s' n some half spent rise =
    let grows : (log_up s' + 1) * cost ≤ log_up s * cost = mul-le-mul_right cost (log_halved s s' some half) in
    omega arith

pub rounds_some : (n : ℕ) → 0 < n → rounds n ≡ log_up n + 1
rounds_some zero h = absurd (omega arith)
rounds_some (suc n) h = refl

pub spent_last : (now next old cost : ℕ) (s n : ℕ) → 0 < n → now + log_up s * cost ≤ old + log_up n * cost → next ≤ now + cost
    → next ≤ old + rounds n * cost
spent_last now next old cost s n some spent rise =
    let e = ap (λ k. k * cost) (rounds_some n some) in
    omega (arith, e)

pub twice_rounds : (n : ℕ) → search_bound n ≡ 2 * rounds n
unfolding search_bound
twice_rounds zero = refl
twice_rounds (suc n) = omega arith

pub rounds_le : (m n : ℕ) → m ≤ n → rounds m ≤ rounds n
rounds_le zero n h = omega arith
rounds_le (suc m) zero h = absurd (omega arith)
rounds_le (suc m) (suc n) h = omega (arith, log_le (suc m) (suc n) h)

-- two searches, the second over no more places
pub rise_twice : (old middle next cost n m : ℕ) → m ≤ n → middle ≤ old + rounds n * cost → next ≤ middle + rounds m * cost → next ≤ old + search_bound n * cost
rise_twice old middle next cost n m h one two =
    let e = ap (λ k. k * cost) (twice_rounds n) in
    omega (arith, e, mul-le-mul_right cost (rounds_le m n h))

pub rise_once : (old next cost n : ℕ) → next ≤ old + rounds n * cost → next ≤ old + search_bound n * cost
rise_once old next cost n one = rise_twice old next next cost n 0 (omega arith) one (omega arith)

pub first_rise : (old next cost n m : ℕ) → n ≡ m → next ≤ old + rounds (n - 0) * cost → next ≤ old + search_bound m * cost
first_rise old next cost n m e one =
    let same : rounds (n - 0) * cost ≡ rounds m * cost = ap (λ k. rounds k * cost) (omega (arith, e)) in
    rise_once old next cost m (omega (arith, same))

pub second_rise : (old middle next cost cost' n m p : ℕ) → n ≡ m → p ≤ n → cost' ≡ cost → middle ≤ old + rounds (n - 0) * cost → next ≤ middle + rounds p * cost'
    → next ≤ old + search_bound m * cost
second_rise old middle next cost cost' n m p e h same_cost one two =
    let same : rounds (n - 0) * cost ≡ rounds m * cost = ap (λ k. rounds k * cost) (omega (arith, e)) in
    let dear : rounds p * cost' ≡ rounds p * cost = ap (λ k. rounds p * k) same_cost in
    rise_twice old middle next cost m p (omega arith) (omega (arith, same)) (omega (arith, dear))

pub first_by : (old next n : ℕ) → next ≤ old + rounds (n - 0) → next ≤ old + search_bound n
first_by old next n one = omega (arith, first_rise old next 1 n n refl (omega arith))

pub second_by : (old middle next n p : ℕ) → p ≤ n → middle ≤ old + rounds (n - 0) → next ≤ middle + rounds p → next ≤ old + search_bound n
second_by old middle next n p h one two = omega (arith, second_rise old middle next 1 1 n n p refl h refl (omega arith) (omega arith))

pub least_by : (old middle next n : ℕ) → middle ≤ next → old + rounds (n - 0) ≤ middle → old + rounds n ≤ next
least_by old middle next n h one =
    let same : rounds (n - 0) ≡ rounds n = ap rounds (omega arith) in
    omega (arith, same)

pub again_by : (old middle next n p m : ℕ) → p ≡ m → old + rounds (n - 0) ≤ middle → middle + rounds m ≤ next → old + rounds n + rounds p ≤ next
again_by old middle next n p m e one two =
    let same : rounds (n - 0) ≡ rounds n = ap rounds (omega arith) in
    omega (arith, same, ap rounds e)

-- one more than a power of two has a greater logarithm
pub over_power : (s : ℕ) → 2 ^ log_up s ≤ s → log_up s + 1 ≤ log_up (s + 1)
over_power s h =
    elim (cases_lt (log_up s) (log_up (s + 1))) as (λ _. log_up s + 1 ≤ log_up (s + 1)) [
      | inl less ↦ omega arith
      | inr more ↦ absurd (omega (arith, log_fits (s + 1), pow-le-pow_right {n = 2} (omega arith) more))
    ]

pub twice_power : (s : ℕ) → 2 ^ log_up s ≤ s → 2 ^ log_up (2 * s) ≤ 2 * s
twice_power s h =
    let c : log_up (2 * s) ≤ log_up s + 1 = log_least (2 * s) (log_up s + 1) (omega (arith, pow_more (log_up s), log_fits s)) in
    omega (arith, pow-le-pow_right {n = 2} (omega arith) c, pow_more (log_up s))

pub log_above : (s w : ℕ) → 2 ^ log_up s < w → log_up s + 1 ≤ log_up w
log_above s w h =
    elim (cases_lt (log_up s) (log_up w)) as (λ _. log_up s + 1 ≤ log_up w) [
      | inl less ↦ omega arith
      | inr more ↦ absurd (omega (arith, log_fits w, pow-le-pow_right {n = 2} (omega arith) more))
    ]

-- how far a gallop has come: the next stride, and how many are known to be less
pub record IsGallop (limit stride w : ℕ) : Type 0 where
  pub within : stride ≤ limit
  pub low : w ≤ stride
  pub none : w ≡ 0 → stride ≡ 0
  pub one : w ≡ 1 → stride ≤ 1
  pub power : 0 < stride → stride < limit → 2 ^ log_up stride ≤ stride
  pub left : 2 ≤ w → 2 ^ log_up (stride - w + 1) < w

pub gallop_start : (limit : ℕ) → IsGallop limit 0 0
gallop_start limit = record { within = omega arith; low = omega arith; none = λ e. refl; one = λ e. omega arith; power = λ a b. absurd (omega arith); left = λ h. absurd (omega arith) }

pub gallop_rounds : (limit stride w : ℕ) → IsGallop limit stride w → stride < limit → rounds w + 1 ≤ rounds (stride + 1)
gallop_rounds limit zero w g h =
    let none : w ≡ 0 = omega (arith, g.low) in
    let e : rounds w ≡ rounds 0 = ap rounds none in
    omega (arith, e, rounds_some 1 (omega arith))
gallop_rounds limit (suc s) zero g h = absurd (omega (arith, g.none refl))
gallop_rounds limit (suc s) (suc w) g h =
    omega (arith, rounds_some (suc s + 1) (omega arith), over_power (suc s) (g.power (omega arith) h), log_le (suc w) (suc s) g.low)

log_one : log_up 1 ≤ 0
log_one = log_least 1 0 (omega arith)

pow_one : 2 ^ log_up 1 ≤ 1
pow_one = omega (arith, pow-le-pow_right {n = 2} (omega arith) log_one)

pub gallop_next : (limit s w s' : ℕ) → IsGallop limit s w → s < limit → (s ≡ 0 → s' ≡ 1) → (0 < s → s' ≡ min (2 * s) limit) → IsGallop limit s' (s + 1)
gallop_next limit zero w s' g h e t =
    let same : s' ≡ 1 = e refl in
    subst (λ k. IsGallop limit k 1) (sym same) (record { within = omega arith; low = omega arith; none = λ a. absurd (omega arith); one = λ a. omega arith; power = λ a b. pow_one; left = λ a. absurd (omega arith) })
gallop_next limit (suc s) w s' g h e t =
    let same : s' ≡ min (2 * suc s) limit = t (omega arith) in
    let here : 2 ^ log_up (suc s) ≤ suc s = g.power (omega arith) h in
    record {
      within = omega arith;
      low = omega arith;
      none = λ a. absurd (omega arith);
      one = λ a. absurd (omega arith);
      power = λ a b. let twice : s' ≡ 2 * suc s = omega arith in subst (λ k. 2 ^ log_up k ≤ k) (sym twice) (twice_power (suc s) here);
      left = λ a. omega (arith, here, pow-le-pow_right {n = 2} (omega arith) (log_le (s' - (suc s + 1) + 1) (suc s) (omega arith)));
    }

last_count : (limit stride w : ℕ) → IsGallop limit stride w → rounds w + 1 + log_up (stride - w + 1) ≤ 2 * log_up (w + 1) + 1
last_count limit stride zero g =
    let none : stride ≡ 0 = g.none refl in
    let size : log_up (stride - 0 + 1) ≤ log_up 1 = log_le (stride - 0 + 1) 1 (omega arith) in
    omega (arith, size, log_one)
last_count limit stride (suc zero) g =
    let size : log_up (stride - 1 + 1) ≤ log_up 1 = log_le (stride - 1 + 1) 1 (omega (arith, g.one refl)) in
    omega (arith, size, log_one, rounds_some 1 (omega arith), over_power 1 pow_one)
last_count limit stride (suc (suc w)) g =
    omega (arith, rounds_some (suc (suc w)) (omega arith), log_above (stride - suc (suc w) + 1) (suc (suc w)) (g.left (omega arith)), log_le (suc (suc w)) (suc (suc w) + 1) (omega arith))

pub gallop_rise : (limit stride w d m old now mid next cost cost' : ℕ) → IsGallop limit stride w → w ≤ d → m ≡ stride - w → cost' ≡ cost
    → now ≤ old + rounds w * cost → mid ≤ now + cost → next ≤ mid + log_up (m + 1) * cost' → next ≤ old + (2 * log_up (d + 1) + 1) * cost
gallop_rise limit stride w d m old now mid next cost cost' g far size same_cost spent one rest =
    let all : rounds w + 1 + log_up (stride - w + 1) ≤ 2 * log_up (d + 1) + 1 = omega (arith, last_count limit stride w g, log_le (w + 1) (d + 1) (omega arith)) in
    let dear : log_up (m + 1) * cost' ≡ log_up (stride - w + 1) * cost = ap (λ k. log_up (k + 1) * cost') size ∙ ap (λ k. log_up (stride - w + 1) * k) same_cost in
    omega (arith, dear, mul-le-mul_right cost all)

pub map_ok : {A E : Type 0} (r : Result A E) (P Q : A → Type 0) → ((x : A) → P x → Q x) → IfOk r P → IfOk r Q
map_ok (Ok x) P Q f p = f x p
map_ok (Err e) P Q f p = p

-- where the power fits it is the least, and else it is looked for among the next
pub power_here : (tries c n : ℕ) → n ≤ 2 ^ c → power_from tries c n ≡ c
unfolding power_from
power_here zero c n h = refl
power_here (suc tries) c n h = by_test (λ k. k ≡ c) n (2 ^ c) c (power_from tries (c + 1) n) (λ _. refl) (λ less. absurd (omega arith))

power_suc : (tries c n : ℕ) → 2 ^ c < n → power_from (suc tries) c n ≡ power_from tries (c + 1) n
unfolding power_from
power_suc tries c n h =
    by_test (λ k. k ≡ power_from tries (c + 1) n) n (2 ^ c) c (power_from tries (c + 1) n) (λ fits. absurd (omega arith)) (λ _. refl)

pub power_next : (c n : ℕ) → 2 ^ c < n → power_from (n - c) c n ≡ power_from (n - (c + 1)) (c + 1) n
power_next c n h =
    let some : n - c ≡ n - (c + 1) + 1 = omega (arith, lt_two_pow c) in
    ap (λ k. power_from k c n) (some ∙ add-one (n - (c + 1))) ∙ power_suc (n - (c + 1)) c n h

-- the bound of a search over some places
pub bound_some : (n : ℕ) → 0 < n → search_bound n ≡ 2 * log_up n + 2
unfolding search_bound
bound_some zero h = absurd (omega arith)
bound_some (suc n) h = refl

pub bound_none : search_bound 0 ≡ 0
unfolding search_bound
bound_none = refl

pub search_bound-le : (m n : ℕ) → m ≤ n → search_bound m ≤ search_bound n
search_bound-le zero n h = omega (arith, bound_none)
search_bound-le (suc m) zero h = absurd (omega arith)
search_bound-le (suc m) (suc n) h = omega (arith, bound_some (suc m) (omega arith), bound_some (suc n) (omega arith), log_le (suc m) (suc n) h)

pub search_bound_positive : (n : ℕ) → 0 < search_bound (n + 1)
search_bound_positive n = omega (arith, bound_some (n + 1) (omega arith))
