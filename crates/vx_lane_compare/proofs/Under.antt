-- Bits with exceptions compared over them, one exception more at a time.
use Rattle.std.proofs.Common.{◌≡◌, ℕ, zero, suc, ◌+◌, ◌-◌, ◌<◌, ◌≤◌, ℤ, inl, inr, List, [], ◌∷◌, length, get_or, set, refl, sym, ◌∙◌, ap, arith, Option, Some, None, Bool, true, false, cond, eqb}
use Rattle.std.specs.Option.{option_map}
use Rattle.std.proofs.lemmas.Bool.{cases_eq}
use Rattle.std.proofs.lemmas.Bool.Decides.{nat_tests}
use Rattle.std.proofs.lemmas.List.{ext_get_or, get_or-set_same, get_or-set_other}
use Rattle.vx_lanes.specs.declared.layout.Layout.{Layout}
use Rattle.vx_lanes.specs.Layouts.{IsLayout, Excepts, excepts, exception_below, exception_of, exceptions, value_of, entries, lane_start, pairs_of, paired_with}
use Rattle.vx_lanes.proofs.Entries.{starts_rise}
use Rattle.vx_lanes.proofs.Exceptions.{first_none, excepts_false, Belongs, entry_of, entry_of_within, holds}
use Rattle.vx_lanes.proofs.Overlays.{below_none, below_same, below_here, stands, stands_back, stands_at}
use Rattle.vx_lanes.proofs.Pairs.{pairs_mean}
use Rattle.vx_scalars.specs.declared.operator.CompareOperator.{CompareOperator}
use Rattle.vx_lane_compare.specs.Bits.{AreUnder, bit_laid, bit_under, bits_from, compared_bits}

-- the bit of a row under its exception among the first n
abbrev under : Layout → CompareOperator → ℤ → ℕ → ℕ → Option Bool → Option Bool
under l op value n row bit = bit_under op value bit (option_map (value_of l) (exception_below l n row))

bare_bit : (op : CompareOperator) (value : ℤ) (bit : Option Bool) → bit_under op value bit None ≡ bit
bare_bit op value None = refl
bare_bit op value (Some b) = refl

under_bare : (l : Layout) (op : CompareOperator) (value : ℤ) (n row : ℕ) (bit : Option Bool) → exception_below l n row ≡ None → under l op value n row bit ≡ bit
under_bare l op value n row bit e = ap (λ (o : Option ℕ). bit_under op value bit (option_map (value_of l) o)) e ∙ bare_bit op value bit

-- ---- an exception at a place

pub laid_out : (l : Layout) (op : CompareOperator) (value : ℤ) (k place row : ℕ) (bit : Option Bool) → (l.offset + row ≡ place → ⊥) → bit ≡ bit_laid l op value k place row bit
unfolding bit_laid
laid_out l op value k place row bit never = sym (ap (λ b. cond b (bit_under op value bit (Some (value_of l k))) bit) (by_cases (eqb (l.offset + row) place) refl))
  where
    by_cases : (b : Bool) → eqb (l.offset + row) place ≡ b → eqb (l.offset + row) place ≡ false
    by_cases true e = absurd (never (grind (arith, nat_tests)))
    by_cases false e = e

laid_here : (l : Layout) (op : CompareOperator) (value : ℤ) (k place row : ℕ) (bit : Option Bool) → l.offset + row ≡ place → bit_laid l op value k place row bit ≡ bit_under op value bit (Some (value_of l k))
unfolding bit_laid
laid_here l op value k place row bit h =
    let test : eqb (l.offset + row) place ≡ true = grind (arith, nat_tests) in
    ap (λ b. cond b (bit_under op value bit (Some (value_of l k))) bit) test

at_place : (l : Layout) (op : CompareOperator) (value : ℤ) (g k row : ℕ) (bit : Option Bool) → IsLayout l → row < l.len → g < entries l → Belongs l g k → bit_laid l op value k (stands_at l g k) row (under l op value k row bit) ≡ under l op value (k + 1) row bit
at_place l op value g k row bit s h w b =
    elim (cases_eq (l.offset + row) (stands_at l g k)) as (λ _. bit_laid l op value k (stands_at l g k) row (under l op value k row bit) ≡ under l op value (k + 1) row bit) [
      | inl same ↦
          let e : Excepts l row k = stands_back l g k row s h w b same in
          laid_here l op value k (stands_at l g k) row (under l op value k row bit) same
          ∙ ap (λ (x : Option Bool). bit_under op value x (Some (value_of l k))) (under_bare l op value k row bit (below_none l k row s h e))
          ∙ sym (ap (λ (o : Option ℕ). bit_under op value bit (option_map (value_of l) o)) (below_here l k row s h e))
      | inr apart ↦
          sym (laid_out l op value k (stands_at l g k) row (under l op value k row bit) apart)
          ∙ sym (ap (λ (o : Option ℕ). bit_under op value bit (option_map (value_of l) o)) (below_same l k row (λ f. apart (stands l g k row s h w b f))))
    ]

pub under_more : (l : Layout) (op : CompareOperator) (value : ℤ) (g k : ℕ) (bare mid new : List (Option Bool)) → IsLayout l → length mid ≡ l.len → g < entries l → Belongs l g k → AreUnder l op value k bare mid → length new ≡ length mid →
    ((row : ℕ) → row < length mid → get_or new row None ≡ bit_laid l op value k (stands_at l g k) row (get_or mid row None)) → AreUnder l op value (k + 1) bare new
under_more l op value g k bare mid new s m w b u e f = record {
  len = e ∙ u.len;
  each = λ row h. f row (omega (arith, u.len)) ∙ ap (bit_laid l op value k (stands_at l g k) row) (u.each row h) ∙ at_place l op value g k row (get_or bare row None) s (omega (arith, u.len)) w b;
}

-- a bit that is written
pub bit_set : (l : Layout) (op : CompareOperator) (value : ℤ) (k place at : ℕ) (bits : List (Option Bool)) (new : Option Bool) → new ≡ bit_under op value (get_or bits at None) (Some (value_of l k)) → l.offset + at ≡ place → at < length bits →
    (row : ℕ) → get_or (set bits at new) row None ≡ bit_laid l op value k place row (get_or bits row None)
bit_set l op value k place at bits new e h w row =
    elim (cases_eq row at) as (λ _. get_or (set bits at new) row None ≡ bit_laid l op value k place row (get_or bits row None)) [
      | inl same ↦
          ap (λ (r : ℕ). get_or (set bits at new) r None) same ∙ get_or-set_same bits at new None w ∙ e ∙ sym (laid_here l op value k place at (get_or bits at None) h)
          ∙ ap (λ (r : ℕ). bit_laid l op value k place r (get_or bits r None)) (sym same)
      | inr apart ↦ get_or-set_other bits at row new None apart ∙ laid_out l op value k place row (get_or bits row None) (λ p. apart (omega arith))
    ]

-- ---- before the first and after the last

first_rises : (l : Layout) (row : ℕ) → IsLayout l → row < l.len → lane_start l 0 ≤ lane_start l (entry_of l row)
first_rises l row s h = starts_rise l 0 (entry_of l row) s (omega arith) (omega (arith, entry_of_within l row s h))

below_first : (l : Layout) (n row : ℕ) → IsLayout l → row < l.len → n ≡ lane_start l 0 → exception_below l n row ≡ None
below_first l n row s h e =
    first_none (excepts l row) n (λ k w. excepts_false l row k (λ f. absurd (let b = holds l row k s h f in omega (arith, b.from, first_rises l row s h))))

below_more_last : (l : Layout) (row d : ℕ) → IsLayout l → row < l.len → exception_below l (lane_start l (entries l) + d) row ≡ exception_below l (lane_start l (entries l)) row
below_more_last l row zero s h =
    let same : lane_start l (entries l) + 0 ≡ lane_start l (entries l) = omega arith in
    ap (λ n. exception_below l n row) same
below_more_last l row (suc d) s h =
    let next : lane_start l (entries l) + suc d ≡ lane_start l (entries l) + d + 1 = omega arith in
    ap (λ n. exception_below l n row) next
    ∙ below_same l (lane_start l (entries l) + d) row (λ f. let b = holds l row (lane_start l (entries l) + d) s h f in omega (arith, b.below, starts_rise l (entry_of l row + 1) (entries l) s (omega (arith, entry_of_within l row s h)) (omega arith)))
    ∙ below_more_last l row d s h

below_last : (l : Layout) (n row : ℕ) → IsLayout l → row < l.len → n ≡ lane_start l (entries l) → exception_below l n row ≡ exception_of l row
below_last l n row s h e =
    ap (λ k. exception_below l k row) e ∙ sym (below_more_last l row (exceptions l - lane_start l (entries l)) s h) ∙ ap (λ k. exception_below l k row) (omega (arith, s.inside))

pub under_none : (l : Layout) (op : CompareOperator) (value : ℤ) (n : ℕ) (bits : List (Option Bool)) → IsLayout l → length bits ≡ l.len → n ≡ lane_start l 0 → AreUnder l op value n bits bits
under_none l op value n bits s m e = record {
  len = refl;
  each = λ row h. sym (under_bare l op value n row (get_or bits row None) (below_first l n row s (omega arith) e));
}

-- ---- all of them

pub bits_length : (l : Layout) (op : CompareOperator) (value : ℤ) (row : ℕ) (bits : List (Option Bool)) → length (bits_from l op value row bits) ≡ length bits
bits_length l op value row [] = refl
bits_length l op value row (bit ∷ bits) = ap suc (bits_length l op value (row + 1) bits)

bit_in : (l : Layout) (op : CompareOperator) (value : ℤ) (row : ℕ) (bits : List (Option Bool)) (i : ℕ) → get_or (bits_from l op value row bits) i None ≡ bit_under op value (get_or bits i None) (paired_with (pairs_of l) (l.offset + (row + i)))
bit_in l op value row [] i = refl
bit_in l op value row (bit ∷ bits) zero = ap (λ (r : ℕ). bit_under op value bit (paired_with (pairs_of l) (l.offset + r))) (omega arith)
bit_in l op value row (bit ∷ bits) (suc i) =
    bit_in l op value (row + 1) bits i ∙ ap (λ (r : ℕ). bit_under op value (get_or bits i None) (paired_with (pairs_of l) (l.offset + r))) (omega arith)

pub bit_at : (l : Layout) (op : CompareOperator) (value : ℤ) (bits : List (Option Bool)) (i : ℕ) → get_or (compared_bits l op value bits) i None ≡ bit_under op value (get_or bits i None) (paired_with (pairs_of l) (l.offset + i))
bit_at l op value bits i = bit_in l op value 0 bits i ∙ ap (λ (r : ℕ). bit_under op value (get_or bits i None) (paired_with (pairs_of l) (l.offset + r))) (omega arith)

pub under_all : (l : Layout) (op : CompareOperator) (value : ℤ) (n : ℕ) (old new : List (Option Bool)) → IsLayout l → length old ≡ l.len → n ≡ lane_start l (entries l) → AreUnder l op value n old new → new ≡ compared_bits l op value old
under_all l op value n old new s m e u =
    ext_get_or None new (compared_bits l op value old) (u.len ∙ sym (bits_length l op value 0 old)) (λ row h.
    let low : row < l.len = omega (arith, u.len) in
    u.each row (omega (arith, u.len))
    ∙ ap (λ (o : Option ℕ). bit_under op value (get_or old row None) (option_map (value_of l) o)) (below_last l n row s low e)
    ∙ ap (bit_under op value (get_or old row None)) (sym (pairs_mean l row s low))
    ∙ sym (bit_at l op value old row))
