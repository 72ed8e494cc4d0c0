-- Which exception stands at a place, one exception more at a time.
use Rattle.std.proofs.Common.{◌≡◌, ℕ, zero, suc, ◌+◌, ◌-◌, ◌<◌, ◌≤◌, inl, inr, List, [], ◌∷◌, length, refl, sym, ◌∙◌, ap, arith, Option, Some, None, Bool, true, false, cond}
use Rattle.std.specs.Map.{lookup}
use Rattle.std.specs.Option.{option_or, unwrap_or}
use Rattle.std.specs.Ordering.{nat_cmp, is_eq}
use Rattle.std.specs.Cmp.{nat_cmp_is}
use Rattle.std.specs.declared.cmp.Ordering.TheVariants.{Less, Greater}
use Rattle.std.proofs.lemmas.Bool.{cases_lt, cases_eq}
use Rattle.vx_lanes.specs.declared.layout.Layout.{Layout}
use Rattle.vx_lanes.specs.Layouts.{IsLayout, Excepts, excepts, first_below, exception_below, exception_of, exceptions, entries, lane_start}
use Rattle.vx_lanes.proofs.Entries.{starts_rise}
use Rattle.vx_lanes.proofs.Exceptions.{first_none, excepts_false, Belongs, entry_of, entry_of_within, holds}
use Rattle.vx_lanes.proofs.Overlays.{below_same, below_here, stands, stands_back, stands_at}

first_rises : (l : Layout) (row : ℕ) → IsLayout l → row < l.len → lane_start l 0 ≤ lane_start l (entry_of l row)
first_rises l row s h = starts_rise l 0 (entry_of l row) s (omega arith) (omega (arith, entry_of_within l row s h))

-- before the first lane there is no exception
pub below_first : (l : Layout) (n row : ℕ) → IsLayout l → row < l.len → n ≡ lane_start l 0 → exception_below l n row ≡ None
below_first l n row s h e =
    first_none (excepts l row) n (λ k w. excepts_false l row k (λ f. absurd (let b = holds l row k s h f in omega (arith, b.from, first_rises l row s h))))

below_more_last : (l : Layout) (row d : ℕ) → IsLayout l → row < l.len → exception_below l (lane_start l (entries l) + d) row ≡ exception_below l (lane_start l (entries l)) row
below_more_last l row zero s h =
    let same : lane_start l (entries l) + 0 ≡ lane_start l (entries l) = omega arith in
    ap (λ n. exception_below l n row) same
below_more_last l row (suc d) s h =
    let next : lane_start l (entries l) + suc d ≡ lane_start l (entries l) + d + 1 = omega arith in
    ap (λ n. exception_below l n row) next
    ∙ below_same l (lane_start l (entries l) + d) row (λ f. let b = holds l row (lane_start l (entries l) + d) s h f in omega (arith, b.below, starts_rise l (entry_of l row + 1) (entries l) s (omega (arith, entry_of_within l row s h)) (omega arith)))
    ∙ below_more_last l row d s h

-- and past the last lane no more
pub below_last : (l : Layout) (n row : ℕ) → IsLayout l → row < l.len → n ≡ lane_start l (entries l) → exception_below l n row ≡ exception_of l row
below_last l n row s h e =
    ap (λ k. exception_below l k row) e ∙ sym (below_more_last l row (exceptions l - lane_start l (entries l)) s h) ∙ ap (λ k. exception_below l k row) (omega (arith, s.inside))

-- `f` tells the exceptions by their places
pub places_more : (l : Layout) (g k : ℕ) (f now : ℕ → Option ℕ) → IsLayout l → g < entries l → Belongs l g k → now (stands_at l g k) ≡ Some k → ((q : ℕ) → (q ≡ stands_at l g k → ⊥) → now q ≡ f q) →
    ((row : ℕ) → row < l.len → f (l.offset + row) ≡ exception_below l k row) → (row : ℕ) → row < l.len → now (l.offset + row) ≡ exception_below l (k + 1) row
places_more l g k f now s u b here other before row h =
    elim (cases_eq (l.offset + row) (stands_at l g k)) as (λ _. now (l.offset + row) ≡ exception_below l (k + 1) row) [
      | inl same ↦ ap now same ∙ here ∙ sym (below_here l k row s h (stands_back l g k row s h u b same))
      | inr apart ↦ other (l.offset + row) apart ∙ before row h ∙ sym (below_same l k row (λ e. apart (stands l g k row s h u b e)))
    ]

-- an exception that is found is one of those
first_low : (test : ℕ → Bool) (n k : ℕ) → first_below test n ≡ Some k → k < n
unfolding first_below
first_low test zero k e = absurd cc
first_low test (suc n) k e = by (λ m f. first_low test n m f) (first_below test n) (test n) refl e
  where
    by : ((m : ℕ) → first_below test n ≡ Some m → m < n) → (o : Option ℕ) (b : Bool) → first_below test n ≡ o → option_or o (cond b (Some n) None) ≡ Some k → k < suc n
    by low (Some m) b f g = let same : m ≡ k = ap (λ o. unwrap_or o 0) g in omega (arith, low m f)
    by low None true f g = let same : n ≡ k = ap (λ o. unwrap_or o 0) g in omega arith
    by low None false f g = absurd cc

pub below_low : (l : Layout) (n row k : ℕ) → exception_below l n row ≡ Some k → k < n
below_low l n row k e = first_low (excepts l row) n k e

-- where a number isn't a key, a map tells of it what it told
pub not_at : (k q : ℕ) → (q ≡ k → ⊥) → is_eq (nat_cmp k q) ≡ false
not_at k q apart =
    elim (cases_lt k q) as (λ _. is_eq (nat_cmp k q) ≡ false) [
      | inl less ↦ ap is_eq (sym (nat_cmp_is k q Less less))
      | inr above ↦
          let more : q < k = elim (cases_lt q k) as (λ _. q < k) [ inl h ↦ h | inr h ↦ absurd (apart (omega arith)) ] in
          ap is_eq (sym (nat_cmp_is k q Greater more))
    ]

-- what holds no entry tells of none
pub no_entry : (test : ℕ → Bool) (es : List (ℕ × ℕ)) → length es ≡ 0 → lookup test es ≡ None
no_entry test [] e = refl
no_entry test (x ∷ xs) e = absurd (omega arith)
