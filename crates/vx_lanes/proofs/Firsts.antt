-- The first rule of a list whose test is true.
use Rattle.std.proofs.Common.{◌≡◌, ℕ, zero, suc, ◌+◌, ◌-◌, ◌*◌, ◌^◌, ◌<◌, ◌≤◌, List, length, [], ◌∷◌, ◌++◌, refl, sym, ◌∙◌, ap, subst, arith, Option, Some, Bool, true, false, cond, not, ◌||◌, inl, inr, add-one, eqb, ltb, leb, ◌&&◌}
use Rattle.std.specs.Option.{option_or}
use Rattle.std.proofs.lemmas.Bool.{cases_lt}
use Rattle.std.proofs.lemmas.Bool.Decides.{nat_tests}
use Rattle.std.proofs.lemmas.Nat.{pow_below, pow_pos}
use Rattle.vx_rows.specs.declared.error.Rule.{Rule}
use Rattle.vx_base.specs.Numbers.{numbers_of}
use Rattle.vx_base.specs.Checks.{non_decreasing}
use Rattle.vx_base.proofs.CheckLemmas.{non_decreasing-says, length_numbers}
use Rattle.vx_lanes.specs.Layouts.{chunks_of, lane_start, entries}
use Rattle.vx_lanes.proofs.Entries.{risen}
use Rattle.vx_lanes.specs.declared.layout.Layout.{Layout}
use Rattle.vx_base.specs.Rules.{first_broken}
use Rattle.vx_lanes.specs.Rules.{too_long, lane_count, lane_offsets_length, lane_offsets_fall, any_below, any_between}

-- a rule of the first list, or else of the second
pub first_join : (xs ys : List (Rule × Bool)) (r : Option Rule) → first_broken xs ≡ r → first_broken (xs ++ ys) ≡ option_or r (first_broken ys)
unfolding first_broken
first_join [] ys r e = ap (λ o. option_or o (first_broken ys)) e
first_join (x ∷ xs) ys r e = by_cases x.1 refl e (first_join xs ys)
  where
    by_cases : (b : Bool) → x.1 ≡ b → cond x.1 (Some x.0) (first_broken xs) ≡ r → ((q : Option Rule) → first_broken xs ≡ q → first_broken (xs ++ ys) ≡ option_or q (first_broken ys)) → cond x.1 (Some x.0) (first_broken (xs ++ ys)) ≡ option_or r (first_broken ys)
    by_cases true f e h = ap (λ b. cond b (Some x.0) (first_broken (xs ++ ys))) f ∙ ap (λ o. option_or o (first_broken ys)) (sym (ap (λ b. cond b (Some x.0) (first_broken xs)) f) ∙ e)
    by_cases false f e h = ap (λ b. cond b (Some x.0) (first_broken (xs ++ ys))) f ∙ h r (sym (ap (λ b. cond b (Some x.0) (first_broken xs)) f) ∙ e)

-- one number more
pub any_below_more : (test : ℕ → Bool) (n : ℕ) → any_below test (n + 1) ≡ (any_below test n || test n)
unfolding any_below
any_below_more test n = ap (any_below test) (add-one n)

pub any_below_none : (test : ℕ → Bool) → any_below test 0 ≡ false
unfolding any_below
any_below_none test = refl

pub any_between_none : (test : ℕ → Bool) (k : ℕ) → any_between test k k ≡ false
any_between_none test k =
    let none : k - k ≡ 0 = omega arith in
    ap (any_below (λ j. test (k + j))) none ∙ any_below_none (λ j. test (k + j))

pub any_between_more : (test : ℕ → Bool) (from k : ℕ) → from ≤ k → any_between test from (k + 1) ≡ (any_between test from k || test k)
any_between_more test from k h =
    let next : k + 1 - from ≡ k - from + 1 = omega arith in
    let here : from + (k - from) ≡ k = omega arith in
    ap (any_below (λ j. test (from + j))) next ∙ any_below_more (λ j. test (from + j)) (k - from) ∙ ap (λ m. any_below (λ j. test (from + j)) (k - from) || test m) here

pub any_below_push : (test : ℕ → Bool) (n : ℕ) (a b : Bool) → any_below test n ≡ a → test n ≡ b → any_below test (n + 1) ≡ (a || b)
any_below_push test n a b e f = any_below_more test n ∙ ap (λ x. x || test n) e ∙ ap (λ x. a || x) f

pub any_below_some : (test : ℕ → Bool) (n k : ℕ) → k < n → test k ≡ true → any_below test n ≡ true
unfolding any_below
any_below_some test zero k h t = absurd (omega arith)
any_below_some test (suc n) k h t =
    elim (cases_lt k n) as (λ _. (any_below test n || test n) ≡ true) [
      | inl below ↦ ap (λ x. x || test n) (any_below_some test n k below t)
      | inr above ↦
          let same : k ≡ n = omega arith in
          let here : test n ≡ true = subst (λ m. test m ≡ true) same t in
          ap (λ x. any_below test n || x) here ∙ or_true (any_below test n)
    ]
  where
    or_true : (b : Bool) → (b || true) ≡ true
    or_true true = refl
    or_true false = refl

pub any_between_push : (test : ℕ → Bool) (from k : ℕ) (a b : Bool) → from ≤ k → any_between test from k ≡ a → test k ≡ b → any_between test from (k + 1) ≡ (a || b)
any_between_push test from k a b h e f = any_between_more test from k h ∙ ap (λ x. x || test k) e ∙ ap (λ x. a || x) f

pub any_below_tells : (test : ℕ → Bool) (n : ℕ) → any_below test n ≡ true → (k : ℕ) × (k < n) × (test k ≡ true)
unfolding any_below
any_below_tells test zero e = absurd (false_true e)
  where
    false_true : false ≡ true → ⊥
    false_true e = cc
any_below_tells test (suc n) e = by_cases (any_below test n) (test n) refl refl (any_below_tells test n) e
  where
    by_cases : (a b : Bool) → any_below test n ≡ a → test n ≡ b → (any_below test n ≡ true → (k : ℕ) × (k < n) × (test k ≡ true)) → (any_below test n || test n) ≡ true → (k : ℕ) × (k < suc n) × (test k ≡ true)
    by_cases true b f g r h = let p = r f in (p.0, omega (arith, p.1), p.2)
    by_cases false true f g r h = (n, omega arith, g)
    by_cases false false f g r h = absurd (let wrong : false ≡ true = sym (ap (λ x. x || test n) f ∙ g) ∙ h in cc)

pub any_below_false : (test : ℕ → Bool) (n k : ℕ) → any_below test n ≡ false → k < n → test k ≡ false
any_below_false test n k e h = by_cases (test k) refl
  where
    by_cases : (b : Bool) → test k ≡ b → b ≡ false
    by_cases true f = let wrong : true ≡ false = sym (any_below_some test n k h f) ∙ e in cc
    by_cases false f = refl

pub not_false : (b : Bool) → not b ≡ false → b ≡ true
not_false true e = refl
not_false false e = cc

pub short_fits : (l : Layout) → too_long l ≡ false → l.offset + l.len < 2 ^ 64
unfolding too_long
short_fits l e = grind (arith, nat_tests)

pub lane_count_tells : (l : Layout) → lane_count l ≡ false → (c : ℕ) × (c < 8) × (l.n_lanes ≡ 2 ^ c)
unfolding lane_count
lane_count_tells l e =
    let r = any_below_tells (λ c. eqb l.n_lanes (2 ^ c)) 8 (not_false _ e) in
    (r.0, r.1, grind (arith, nat_tests, r.2))

pub lane_count_few : (l : Layout) → lane_count l ≡ false → l.n_lanes < 256
lane_count_few l e =
    let r = lane_count_tells l e in
    subst (λ n. n < 256) (sym r.2) (pow_below r.0 8 r.1)

pub lanes_positive : (l : Layout) → lane_count l ≡ false → 0 < l.n_lanes
lanes_positive l e =
    let r = lane_count_tells l e in
    subst (λ n. 0 < n) (sym r.2) (pow_pos r.0)

pub length_tells : (l : Layout) → lane_offsets_length l ≡ false → length l.lane_offsets.rows ≡ l.n_lanes * chunks_of (l.offset + l.len) + 1
unfolding lane_offsets_length
length_tells l e = grind (arith, nat_tests)

pub fall_tells : (l : Layout) (g : ℕ) → lane_offsets_fall l ≡ false → g < entries l → lane_start l g ≤ lane_start l (g + 1)
unfolding lane_offsets_fall
fall_tells l g e h =
    let up : non_decreasing (numbers_of l.lane_offsets.rows) ≡ true = not_false _ e in
    non_decreasing-says (numbers_of l.lane_offsets.rows) up g (g + 1) 0 (omega arith) (omega (arith, length_numbers l.lane_offsets.rows))

pub starts_up : (l : Layout) (g : ℕ) → lane_offsets_fall l ≡ false → g ≤ entries l → lane_start l g ≤ lane_start l (entries l)
starts_up l g e h =
    let whole : g + (entries l - g) ≡ entries l = omega arith in
    subst (λ n. lane_start l g ≤ lane_start l n) whole (risen (lane_start l) g (entries l - g) (λ k u. fall_tells l k e (omega arith)))

or_false : (b : Bool) → b ≡ (b || false)
or_false true = refl
or_false false = refl

or_assoc : (a b c : Bool) → ((a || b) || c) ≡ (a || (b || c))
or_assoc true b c = refl
or_assoc false b c = refl

join_more : (test : ℕ → Bool) (a b d : ℕ) → a ≤ b → any_between test a (b + d) ≡ (any_between test a b || any_between test b (b + d))
join_more test a b zero h =
    let same : b + 0 ≡ b = omega arith in
    ap (any_between test a) same ∙ or_false (any_between test a b) ∙ ap (λ x. any_between test a b || x) (sym (ap (any_between test b) same ∙ any_between_none test b))
join_more test a b (suc d) h =
    let next : b + suc d ≡ b + d + 1 = omega arith in
    ap (any_between test a) next ∙ any_between_more test a (b + d) (omega arith) ∙ ap (λ x. x || test (b + d)) (join_more test a b d h)
    ∙ or_assoc (any_between test a b) (any_between test b (b + d)) (test (b + d))
    ∙ ap (λ x. any_between test a b || x) (sym (ap (any_between test b) next ∙ any_between_more test b (b + d) (omega arith)))

pub any_between_join : (test : ℕ → Bool) (a b c : ℕ) → a ≤ b → b ≤ c → any_between test a c ≡ (any_between test a b || any_between test b c)
any_between_join test a b c h w =
    let whole : b + (c - b) ≡ c = omega arith in
    ap (any_between test a) (sym whole) ∙ join_more test a b (c - b) h ∙ ap (λ n. any_between test a b || any_between test b n) whole

pub order_same : (from k index last i j : ℕ) → from ≤ k → (from < k → last ≡ j) → index ≡ i → (not (eqb k from) && leb index last) ≡ (ltb from k && leb i j)
order_same from k index last i j h f e =
    elim (cases_lt from k) as (λ _. (not (eqb k from) && leb index last) ≡ (ltb from k && leb i j)) [
      | inl below ↦
          let apart : not (eqb k from) ≡ ltb from k = grind (arith, nat_tests) in
          ap (λ x. x && leb index last) apart ∙ ap (λ x. ltb from k && leb x last) e ∙ ap (λ x. ltb from k && leb i x) (f below)
      | inr above ↦
          let first : not (eqb k from) ≡ false = grind (arith, nat_tests) in
          let none : ltb from k ≡ false = grind (arith, nat_tests) in
          ap (λ x. x && leb index last) first ∙ sym (ap (λ x. x && leb i j) none)
    ]

or_or : (a b c : Bool) → ((a || b) || c) ≡ (a || (b || c))
or_or true b c = refl
or_or false b c = refl

-- what passed before, or passes in a range
pub or_between_none : (test : ℕ → Bool) (k : ℕ) (before : Bool) → before ≡ (before || any_between test k k)
or_between_none test k before = or_false before ∙ ap (λ x. before || x) (sym (any_between_none test k))

pub or_between_more : (test : ℕ → Bool) (from k : ℕ) (before : Bool) → from ≤ k → ((before || any_between test from k) || test k) ≡ (before || any_between test from (k + 1))
or_between_more test from k before h = or_or before (any_between test from k) (test k) ∙ ap (λ x. before || x) (sym (any_between_more test from k h))
