-- Rows from a start to below an end.
use Rattle.std.proofs.Common.{◌≡◌, ℕ, ◌+◌, ◌-◌, ◌≤◌, ◌<◌, inl, inr, true, false, List, [], ◌∷◌, take, drop, map, refl, sym, ◌∙◌, ap, arith, add-one}
use Rattle.std.specs.Prelude.{slice_range}
use Rattle.std.specs.List.{filter}
use Rattle.std.proofs.lemmas.Bool.{cases_lt, cases_Bool, cond-true, cond-false}
use Rattle.std.proofs.lemmas.Bool.Decides.{nat_tests}
use Rattle.vx_base.specs.Checks.{count_below}
use Rattle.vx_patches.specs.Slices.{lies_inside, rows_inside}
use Rattle.vx_patches.specs.Pairs.{pairs_inside}
use Rattle.vx_patches.proofs.Counts.{Rising, tail, count_yes, count_no, count_is}

inside_yes : (s e x : ℕ) → s ≤ x → x < e → lies_inside s e x ≡ true
inside_yes s e x h k = grind (arith, nat_tests)

inside_low : (s e x : ℕ) → x < s → lies_inside s e x ≡ false
inside_low s e x h = grind (arith, nat_tests)

inside_high : (s e x : ℕ) → e ≤ x → lies_inside s e x ≡ false
inside_high s e x h = grind (arith, nat_tests)

none_below : (v x : ℕ) (xs : List ℕ) → Rising (x ∷ xs) → v ≤ x → count_below v xs ≡ 0
none_below v x xs r h = count_is v xs (tail x xs r) 0 (omega arith) (λ some. absurd (omega arith)) (λ some. omega (arith, r 0 1 (omega arith) (omega arith)))

slice_cons : {B : Type 0} (b : B) (bs : List B) (a c : ℕ) → slice_range (b ∷ bs) (a + 1) (c + 1) ≡ slice_range bs a c
slice_cons b bs a c =
    let less : c + 1 - (a + 1) ≡ c - a = omega arith in
    ap (λ n. take n (drop (a + 1) (b ∷ bs))) less ∙ ap (λ n. take (c - a) (drop n (b ∷ bs))) (add-one a)

take_cons : {B : Type 0} (b : B) (bs : List B) (c : ℕ) → take (c + 1) (b ∷ bs) ≡ b ∷ take c bs
take_cons b bs c = ap (λ n. take n (b ∷ bs)) (add-one c)

front_slice : {B : Type 0} (bs : List B) (c : ℕ) → slice_range bs 0 c ≡ take c bs
front_slice bs c =
    let all : c - 0 ≡ c = omega arith in
    ap (λ n. take n bs) all

-- the items whose keys lie inside stand together, between the two places
pub filter_rising : {B : Type 0} (key : B → ℕ) (s e : ℕ) → s ≤ e → (bs : List B) → Rising (map key bs) →
    filter (λ b. lies_inside s e (key b)) bs ≡ slice_range bs (count_below s (map key bs)) (count_below e (map key bs))
filter_rising key s e h [] r = refl
filter_rising {B} key s e h (b ∷ bs) r =
    let ks = map key bs in
    let rest = filter_rising key s e h bs (tail (key b) ks r) in
    elim (cases_lt (key b) s) as (λ _. filter (λ b. lies_inside s e (key b)) (b ∷ bs) ≡ slice_range (b ∷ bs) (count_below s (key b ∷ ks)) (count_below e (key b ∷ ks))) [
      | inl low ↦
          cond-false _ (b ∷ filter (λ b. lies_inside s e (key b)) bs) _ (inside_low s e (key b) low) ∙ rest ∙ sym (slice_cons b bs (count_below s ks) (count_below e ks))
          ∙ sym (ap (λ n. slice_range (b ∷ bs) n (count_below e (key b ∷ ks))) (count_yes s (key b) ks low) ∙ ap (slice_range (b ∷ bs) (count_below s ks + 1)) (count_yes e (key b) ks (omega arith)))
      | inr more ↦
          let front : count_below s (key b ∷ ks) ≡ 0 = count_no s (key b) ks more ∙ none_below s (key b) ks r more in
          let rest_front : filter (λ b. lies_inside s e (key b)) bs ≡ take (count_below e ks) bs = rest ∙ ap (λ n. slice_range bs n (count_below e ks)) (none_below s (key b) ks r more) ∙ front_slice bs (count_below e ks) in
          elim (cases_lt (key b) e) as (λ _. filter (λ b. lies_inside s e (key b)) (b ∷ bs) ≡ slice_range (b ∷ bs) (count_below s (key b ∷ ks)) (count_below e (key b ∷ ks))) [
            | inl inside ↦
                cond-true _ (b ∷ filter (λ b. lies_inside s e (key b)) bs) _ (inside_yes s e (key b) more inside) ∙ ap (λ cs. b ∷ cs) rest_front ∙ sym (take_cons b bs (count_below e ks))
                ∙ sym (ap (λ n. slice_range (b ∷ bs) n (count_below e (key b ∷ ks))) front ∙ front_slice (b ∷ bs) (count_below e (key b ∷ ks)) ∙ ap (λ n. take n (b ∷ bs)) (count_yes e (key b) ks inside))
            | inr high ↦
                cond-false _ (b ∷ filter (λ b. lies_inside s e (key b)) bs) _ (inside_high s e (key b) high) ∙ rest_front ∙ ap (λ n. take n bs) (none_below e (key b) ks r high)
                ∙ sym (ap (λ n. slice_range (b ∷ bs) n (count_below e (key b ∷ ks))) front ∙ front_slice (b ∷ bs) (count_below e (key b ∷ ks)) ∙ ap (λ n. take n (b ∷ bs)) (count_no e (key b) ks high ∙ none_below e (key b) ks r high))
          ]
    ]

-- a slice of a slice is one slice, by the composed range
pub inside_twice : (s e t f x : ℕ) → f ≤ e - s → lies_inside s e x ≡ true → lies_inside t f (x - s) ≡ lies_inside (s + t) (s + f) x
inside_twice s e t f x h k = grind (arith, nat_tests)

inside_within : (s e t f x : ℕ) → f ≤ e - s → lies_inside s e x ≡ false → lies_inside (s + t) (s + f) x ≡ false
inside_within s e t f x h k = grind (arith, nat_tests)

pub pairs_yes : {A : Type 0} (s e : ℕ) (p : ℕ × A) (ps : List (ℕ × A)) → lies_inside s e p.0 ≡ true → pairs_inside s e (p ∷ ps) ≡ (p.0 - s, p.1) ∷ pairs_inside s e ps
pairs_yes {A} s e p ps h = ap (map (λ (q : ℕ × A). (q.0 - s, q.1))) (cond-true _ (p ∷ filter (λ (q : ℕ × A). lies_inside s e q.0) ps) _ h)

pub pairs_no : {A : Type 0} (s e : ℕ) (p : ℕ × A) (ps : List (ℕ × A)) → lies_inside s e p.0 ≡ false → pairs_inside s e (p ∷ ps) ≡ pairs_inside s e ps
pairs_no {A} s e p ps h = ap (map (λ (q : ℕ × A). (q.0 - s, q.1))) (cond-false _ (p ∷ filter (λ (q : ℕ × A). lies_inside s e q.0) ps) _ h)

pub chain_pairs : {A : Type 0} (s e t f : ℕ) → f ≤ e - s → (ps : List (ℕ × A)) → pairs_inside t f (pairs_inside s e ps) ≡ pairs_inside (s + t) (s + f) ps
chain_pairs s e t f h [] = refl
chain_pairs {A} s e t f h (p ∷ ps) =
    let rest = chain_pairs s e t f h ps in
    let less : p.0 - s - t ≡ p.0 - (s + t) = omega arith in
    elim (cases_Bool (lies_inside s e p.0)) as (λ _. pairs_inside t f (pairs_inside s e (p ∷ ps)) ≡ pairs_inside (s + t) (s + f) (p ∷ ps)) [
      | inl is_in ↦
          elim (cases_Bool (lies_inside (s + t) (s + f) p.0)) as (λ _. pairs_inside t f (pairs_inside s e (p ∷ ps)) ≡ pairs_inside (s + t) (s + f) (p ∷ ps)) [
            | inl both ↦
                ap (pairs_inside t f) (pairs_yes s e p ps is_in) ∙ pairs_yes t f (p.0 - s, p.1) (pairs_inside s e ps) (inside_twice s e t f p.0 h is_in ∙ both)
                ∙ ap (λ (n : ℕ). (n, p.1) ∷ pairs_inside t f (pairs_inside s e ps)) less ∙ ap (λ (qs : List (ℕ × A)). (p.0 - (s + t), p.1) ∷ qs) rest
                ∙ sym (pairs_yes (s + t) (s + f) p ps both)
            | inr one ↦
                ap (pairs_inside t f) (pairs_yes s e p ps is_in) ∙ pairs_no t f (p.0 - s, p.1) (pairs_inside s e ps) (inside_twice s e t f p.0 h is_in ∙ one)
                ∙ rest ∙ sym (pairs_no (s + t) (s + f) p ps one)
          ]
      | inr is_out ↦
          ap (pairs_inside t f) (pairs_no s e p ps is_out) ∙ rest ∙ sym (pairs_no (s + t) (s + f) p ps (inside_within s e t f p.0 h is_out))
    ]

pub rows_yes : (s e n : ℕ) (ns : List ℕ) → lies_inside s e n ≡ true → rows_inside s e (n ∷ ns) ≡ (n - s) ∷ rows_inside s e ns
rows_yes s e n ns h = ap (map (λ (k : ℕ). k - s)) (cond-true _ (n ∷ filter (lies_inside s e) ns) _ h)

pub rows_no : (s e n : ℕ) (ns : List ℕ) → lies_inside s e n ≡ false → rows_inside s e (n ∷ ns) ≡ rows_inside s e ns
rows_no s e n ns h = ap (map (λ (k : ℕ). k - s)) (cond-false _ (n ∷ filter (lies_inside s e) ns) _ h)

pub chain_rows : (s e t f : ℕ) → f ≤ e - s → (ns : List ℕ) → rows_inside t f (rows_inside s e ns) ≡ rows_inside (s + t) (s + f) ns
chain_rows s e t f h [] = refl
chain_rows s e t f h (n ∷ ns) =
    let rest = chain_rows s e t f h ns in
    let less : n - s - t ≡ n - (s + t) = omega arith in
    elim (cases_Bool (lies_inside s e n)) as (λ _. rows_inside t f (rows_inside s e (n ∷ ns)) ≡ rows_inside (s + t) (s + f) (n ∷ ns)) [
      | inl is_in ↦
          elim (cases_Bool (lies_inside (s + t) (s + f) n)) as (λ _. rows_inside t f (rows_inside s e (n ∷ ns)) ≡ rows_inside (s + t) (s + f) (n ∷ ns)) [
            | inl both ↦
                ap (rows_inside t f) (rows_yes s e n ns is_in) ∙ rows_yes t f (n - s) (rows_inside s e ns) (inside_twice s e t f n h is_in ∙ both)
                ∙ ap (λ (k : ℕ). k ∷ rows_inside t f (rows_inside s e ns)) less ∙ ap (λ (ks : List ℕ). (n - (s + t)) ∷ ks) rest ∙ sym (rows_yes (s + t) (s + f) n ns both)
            | inr one ↦
                ap (rows_inside t f) (rows_yes s e n ns is_in) ∙ rows_no t f (n - s) (rows_inside s e ns) (inside_twice s e t f n h is_in ∙ one)
                ∙ rest ∙ sym (rows_no (s + t) (s + f) n ns one)
          ]
      | inr is_out ↦ ap (rows_inside t f) (rows_no s e n ns is_out) ∙ rest ∙ sym (rows_no (s + t) (s + f) n ns (inside_within s e t f n h is_out))
    ]
