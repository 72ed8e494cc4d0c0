-- How many entries have an exception among the first ones.
use Rattle.std.proofs.Common.{◌≡◌, ℕ, zero, suc, ◌+◌, ◌<◌, ◌≤◌, ◌⊎◌, inl, inr, List, [], ◌∷◌, length, slice_index, refl, sym, ◌∙◌, ap, arith, Option, Some, None, cond}
use Rattle.std.specs.Option.{option_or}
use Rattle.std.specs.List.{All}
use Rattle.std.proofs.lemmas.Bool.{cases_eq}
use Rattle.std.proofs.lemmas.List.Elements.{All-tail}
use Rattle.vx_lanes.specs.declared.layout.Layout.{Layout}
use Rattle.vx_lanes.specs.Layouts.{IsLayout, Excepts, excepts, exception_below, entries, one_if_some}
use Rattle.vx_lanes.proofs.Exceptions.{Belongs}
use Rattle.vx_lanes.proofs.Overlays.{below_more, below_none, below_here, stands_back, stands_at}
use Rattle.vx_lane_select.specs.Selected.{covered_at}

pub covered-le : (l : Layout) (n : ℕ) (kept : List ℕ) → covered_at l n kept ≤ length kept
unfolding covered_at
covered-le l n [] = omega arith
covered-le l n (row ∷ rows) = omega (arith, covered-le l n rows, small (exception_below l n row))
  where
    small : (o : Option ℕ) → one_if_some o ≤ 1
    small None = omega arith
    small (Some x) = omega arith

one_up : (l : Layout) (k row : ℕ) → one_if_some (exception_below l k row) ≤ one_if_some (exception_below l (k + 1) row)
one_up l k row = up (exception_below l k row) refl
  where
    up : (o : Option ℕ) → exception_below l k row ≡ o → one_if_some (exception_below l k row) ≤ one_if_some (exception_below l (k + 1) row)
    up None e = omega (arith, ap one_if_some e)
    up (Some x) e =
        let after : exception_below l (k + 1) row ≡ Some x = below_more l k row ∙ ap (λ p. option_or p (cond (excepts l row k) (Some k) None)) e in
        omega (arith, ap one_if_some e, ap one_if_some after)

covered-rise : (l : Layout) (k : ℕ) (kept : List ℕ) → covered_at l k kept ≤ covered_at l (k + 1) kept
unfolding covered_at
covered-rise l k [] = omega arith
covered-rise l k (row ∷ rows) = omega (arith, covered-rise l k rows, one_up l k row)

covered-more : (l : Layout) (k : ℕ) (kept : List ℕ) (j : ℕ) → IsLayout l → All (λ row. row < l.len) kept → j < length kept → Excepts l (slice_index kept j) k → covered_at l k kept + 1 ≤ covered_at l (k + 1) kept
unfolding covered_at
covered-more l k [] j s all h e = absurd (omega arith)
covered-more l k (row ∷ rows) zero s all h e =
    let low : row < l.len = all 0 0 (omega arith) in
    omega (arith, covered-rise l k rows, ap one_if_some (below_none l k row s low e), ap one_if_some (below_here l k row s low e))
covered-more l k (row ∷ rows) (suc j) s all h e =
    omega (arith, covered-more l k rows j s (All-tail (λ (r : ℕ). r < l.len) row rows all) (omega arith) e, one_up l k row)

abbrev Stands : Layout → ℕ → List ℕ → Type 0
Stands l place kept = (j : ℕ) × (j < length kept) × (l.offset + slice_index kept j ≡ place)

abbrev Misses : Layout → ℕ → List ℕ → Type 0
Misses l place kept = (j : ℕ) → j < length kept → l.offset + slice_index kept j ≡ place → ⊥

misses_more : (l : Layout) (place row : ℕ) (rows : List ℕ) → (l.offset + row ≡ place → ⊥) → Misses l place rows → Misses l place (row ∷ rows)
misses_more l place row rows apart none zero h e = apart e
misses_more l place row rows apart none (suc j) h e = none j (omega arith) e

stands_or_misses : (l : Layout) (place : ℕ) (kept : List ℕ) → Stands l place kept ⊎ Misses l place kept
stands_or_misses l place [] = inr (λ j h e. absurd (omega arith))
stands_or_misses l place (row ∷ rows) = by (cases_eq (l.offset + row) place) (stands_or_misses l place rows)
  where
    by : (l.offset + row ≡ place) ⊎ (l.offset + row ≡ place → ⊥) → Stands l place rows ⊎ Misses l place rows → Stands l place (row ∷ rows) ⊎ Misses l place (row ∷ rows)
    by (inl same) rest = inl (0, omega arith, same)
    by (inr apart) (inl found) = inl (suc found.0, omega (arith, found.1), found.2)
    by (inr apart) (inr none) = inr (misses_more l place row rows apart none)

-- one more exception costs no more than it covers
pub cost_more : (l : Layout) (g k before after : ℕ) (kept : List ℕ) → IsLayout l → All (λ row. row < l.len) kept → g < entries l → Belongs l g k → before ≤ after → after ≤ before + 1 →
    (((j : ℕ) → j < length kept → l.offset + slice_index kept j ≡ stands_at l g k → ⊥) → after ≡ before) → after + covered_at l k kept ≤ before + covered_at l (k + 1) kept
cost_more l g k before after kept s all u b low high none =
    elim (stands_or_misses l (stands_at l g k) kept) as (λ _. after + covered_at l k kept ≤ before + covered_at l (k + 1) kept) [
      | inl found ↦ omega (arith, covered-more l k kept found.0 s all found.1 (stands_back l g k (slice_index kept found.0) s (all found.0 0 found.1) u b found.2))
      | inr missed ↦ omega (arith, none missed, covered-rise l k kept)
    ]
