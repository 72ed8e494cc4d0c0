-- The exception for a row: there is at most one, and its row's lane holds it.
use Rattle.std.proofs.Common.{◌≡◌, ℕ, zero, suc, ◌+◌, ◌-◌, ◌*◌, ◌/◌, ◌%◌, ◌<◌, ◌≤◌, inl, inr, refl, sym, ◌∙◌, ap, subst, arith, Some, None, Bool, true, false, cond}
use Rattle.std.specs.Option.{option_or}
use Rattle.std.proofs.lemmas.Nat.{mod-mul-add}
use Rattle.std.proofs.lemmas.Bool.{cases_lt}
use Rattle.std.proofs.lemmas.Bool.Decides.{nat_tests}
use Rattle.vx_lanes.specs.declared.layout.Layout.{Layout}
use Rattle.vx_lanes.specs.Layouts.{IsLayout, Excepts, excepts, first_below, exception_of, chunks_of, chunk_of, place_of, entries, exceptions, lane_start, index_of}
use Rattle.vx_lanes.proofs.Entries.{lanes_some, entry_within, entry_inside, starts_rise, crossing, order_within}

-- the first number that passes
pub first_none : (test : ℕ → Bool) (n : ℕ) → ((m : ℕ) → m < n → test m ≡ false) → first_below test n ≡ None
unfolding first_below
first_none test zero f = refl
first_none test (suc n) f =
    let before : first_below test n ≡ None = first_none test n (λ m w. f m (omega arith)) in
    let here : test n ≡ false = f n (omega arith) in
    ap (λ o. option_or o (cond (test n) (Some n) None)) before ∙ ap (λ b. cond b (Some n) None) here

pub first_some : (test : ℕ → Bool) (n k : ℕ) → k < n → test k ≡ true → ((m : ℕ) → m < k → test m ≡ false) → first_below test n ≡ Some k
unfolding first_below
first_some test zero k h t f = absurd (omega arith)
first_some test (suc n) k h t f =
    elim (cases_lt k n) as (λ _. option_or (first_below test n) (cond (test n) (Some n) None) ≡ Some k) [
      | inl below ↦ ap (λ o. option_or o (cond (test n) (Some n) None)) (first_some test n k below t f)
      | inr above ↦
          let same : k ≡ n = omega arith in
          let before : first_below test n ≡ None = first_none test n (λ m w. f m (omega arith)) in
          let here : test n ≡ true = subst (λ m. test m ≡ true) same t in
          ap (λ o. option_or o (cond (test n) (Some n) None)) before ∙ ap (λ b. cond b (Some n) None) here ∙ ap Some (sym same)
    ]

-- the test says what the record says
pub excepts_true : (l : Layout) (row k : ℕ) → Excepts l row k → excepts l row k ≡ true
unfolding excepts
excepts_true l row k e = grind (arith, nat_tests, e.from, e.below, e.place)

pub excepts_tells : (l : Layout) (row k : ℕ) → excepts l row k ≡ true → Excepts l row k
unfolding excepts
excepts_tells l row k e = record { from = grind (arith, nat_tests); below = grind (arith, nat_tests); place = grind (arith, nat_tests) }

pub excepts_false : (l : Layout) (row k : ℕ) → (Excepts l row k → ⊥) → excepts l row k ≡ false
excepts_false l row k never = by_cases (excepts l row k) refl
  where
    by_cases : (b : Bool) → excepts l row k ≡ b → b ≡ false
    by_cases true e = absurd (never (excepts_tells l row k e))
    by_cases false e = refl

-- exception k belongs to entry g
pub record Belongs (l : Layout) (g k : ℕ) : Type 0 where
  pub from : lane_start l g ≤ k
  pub below : k < lane_start l (g + 1)

-- the entry that holds the exception at a place counted over all chunks, and a row's exception
abbrev pub entry_at : Layout → ℕ → ℕ
entry_at l place = place / 1024 * l.n_lanes + place % 1024 % l.n_lanes

abbrev pub entry_of : Layout → ℕ → ℕ
entry_of l row = entry_at l (l.offset + row)

pub entry_at_within : (l : Layout) (place : ℕ) → IsLayout l → place < l.offset + l.len → entry_at l place < entries l
entry_at_within l place s h = entry_within l (place / 1024) (place % 1024 % l.n_lanes) s (omega arith) (omega (arith, lanes_some l s))

pub chunk_within : (l : Layout) (row : ℕ) → row < l.len → chunk_of l row < chunks_of (l.offset + l.len)
chunk_within l row h = omega arith

pub lane_within : (l : Layout) (row : ℕ) → IsLayout l → place_of l row % l.n_lanes < l.n_lanes
lane_within l row s = omega (arith, lanes_some l s)

pub entry_of_within : (l : Layout) (row : ℕ) → IsLayout l → row < l.len → entry_of l row < entries l
entry_of_within l row s h = entry_within l (chunk_of l row) (place_of l row % l.n_lanes) s (chunk_within l row h) (lane_within l row s)

pub holds : (l : Layout) (row k : ℕ) → IsLayout l → row < l.len → Excepts l row k → Belongs l (entry_of l row) k
holds l row k s h e =
    let c : ℕ = chunk_of l row in
    let n : ℕ = l.n_lanes in
    let wide : (c + 1) * n ≡ c * n + n = omega arith in
    let to : k < lane_start l (c * n + n) = subst (λ (m : ℕ). k < lane_start l m) wide e.below in
    found (crossing (lane_start l) (c * n) n k e.from to)
  where
    found : (j : ℕ) × (j < l.n_lanes) × (lane_start l (chunk_of l row * l.n_lanes + j) ≤ k) × (k < lane_start l (chunk_of l row * l.n_lanes + j + 1)) → Belongs l (entry_of l row) k
    found r =
        let j : ℕ = r.0 in
        let c : ℕ = chunk_of l row in
        let within : c * l.n_lanes + j < entries l = entry_within l c j s (chunk_within l row h) r.1 in
        let lane : index_of l k % l.n_lanes ≡ j = s.in_lane (c * l.n_lanes + j) k within r.2 r.3 ∙ mod-mul-add c l.n_lanes j r.1 in
        let same : j ≡ place_of l row % l.n_lanes = sym lane ∙ ap (λ p. p % l.n_lanes) e.place in
        subst (λ (i : ℕ). Belongs l (c * l.n_lanes + i) k) same (record { from = r.2; below = r.3 })

-- and what its entry holds at its place is its exception
pub holds_back : (l : Layout) (row k : ℕ) → IsLayout l → row < l.len → Belongs l (entry_of l row) k → index_of l k ≡ place_of l row → Excepts l row k
holds_back l row k s h b e =
    let c : ℕ = chunk_of l row in
    let n : ℕ = l.n_lanes in
    let lane : place_of l row % n < n = lane_within l row s in
    let last : n - 1 < n = omega (arith, lanes_some l s) in
    let wide : (c + 1) * n ≡ c * n + n = omega arith in
    let inside : (c + 1) * n ≤ entries l = omega (arith, entry_within l c (n - 1) s (chunk_within l row h) last) in
    record {
      from = omega (arith, b.from, starts_rise l (c * n) (entry_of l row) s (omega arith) (omega arith));
      below = omega (arith, b.below, starts_rise l (entry_of l row + 1) ((c + 1) * n) s (omega arith) inside);
      place = e;
    }

pub one_exception : (l : Layout) (row k m : ℕ) → IsLayout l → row < l.len → Excepts l row k → Excepts l row m → k ≡ m
one_exception l row k m s h e f =
    let g : ℕ = entry_of l row in
    let w : g < entries l = entry_of_within l row s h in
    let bk : Belongs l g k = holds l row k s h e in
    let bm : Belongs l g m = holds l row m s h f in
    elim (cases_lt k m) as (λ _. k ≡ m) [
      | inl less ↦
          let there : k + (m - k - 1) + 1 ≡ m = omega arith in
          absurd (omega (arith, e.place, f.place, ap (index_of l) there, order_within l g k (m - k - 1) s w bk.from (omega (arith, bm.below))))
      | inr above ↦ elim (cases_lt m k) as (λ _. k ≡ m) [
        | inl more ↦
            let there : m + (k - m - 1) + 1 ≡ k = omega arith in
            absurd (omega (arith, e.place, f.place, ap (index_of l) there, order_within l g m (k - m - 1) s w bm.from (omega (arith, bk.below))))
        | inr same ↦ omega arith
      ]
    ]

pub exception_some : (l : Layout) (row k : ℕ) → IsLayout l → row < l.len → Excepts l row k → exception_of l row ≡ Some k
exception_some l row k s h e =
    let b = holds l row k s h e in
    first_some (excepts l row) (exceptions l) k (entry_inside l (entry_of l row) k s (entry_of_within l row s h) b.below) (excepts_true l row k e)
    (λ m w. excepts_false l row m (λ f. absurd (let same : m ≡ k = one_exception l row m k s h f e in omega arith)))

pub exception_none : (l : Layout) (row : ℕ) → ((k : ℕ) → Excepts l row k → ⊥) → exception_of l row ≡ None
exception_none l row never = first_none (excepts l row) (exceptions l) (λ m w. excepts_false l row m (never m))

-- what stands in the entry of a place, with its index, is the exception of the place's row, and nothing else is
pub found_at : (l : Layout) (place k row : ℕ) → IsLayout l → place < l.offset + l.len → Belongs l (entry_at l place) k → index_of l k ≡ place % 1024 → l.offset + row ≡ place → Excepts l row k
found_at l place k row s h b p e =
    let at : entry_at l place ≡ entry_of l row = ap (entry_at l) (sym e) in
    holds_back l row k s (omega arith) (subst (λ (g : ℕ). Belongs l g k) at b) (p ∙ ap (λ n. n % 1024) (sym e))

pub missed_at : (l : Layout) (place : ℕ) → IsLayout l → place < l.offset + l.len → ((k : ℕ) → Belongs l (entry_at l place) k → index_of l k ≡ place % 1024 → ⊥) → (row k : ℕ) → l.offset + row ≡ place → Excepts l row k → ⊥
missed_at l place s h never row k e f =
    let at : entry_of l row ≡ entry_at l place = ap (entry_at l) e in
    never k (subst (λ (g : ℕ). Belongs l g k) at (holds l row k s (omega arith) f)) (f.place ∙ ap (λ n. n % 1024) e)
