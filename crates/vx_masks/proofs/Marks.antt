-- Bits that a test gives, place by place.
use Rattle.std.proofs.Common.{arith, refl, sym, ◌∙◌, ap, ◌≡◌, ◌⊎◌, inl, inr, ◌<◌, ◌+◌, ℕ, Bool, true, false, ◌||◌, eqb as nat_eq, List, length, get_or, set, take, map}
use Rattle.std.specs.List.{range_with_len, list_any}
use Rattle.std.specs.Prelude.{replicate}
use Rattle.std.proofs.lemmas.Bool.{cases_eq, ne_eqb}
use Rattle.std.proofs.Common.{eq-eqb}
use Rattle.std.proofs.Math.Bool.{or-true}
use Rattle.std.proofs.lemmas.List.{ext_get_or, length-set, get_or-set_other, length-replicate, get_or-replicate}
use Rattle.std.proofs.lemmas.Grind.{get_or-set_at}
use Rattle.std.proofs.lemmas.List.FromFn.{get_or-map-range_with_len, length-map-range_with_len}
use Rattle.std.proofs.lemmas.List.Folds.{list_any_more}
use Rattle.vx_masks.specs.Bits.{is_within}

-- so many bits, each as the test says
pub record Marks (test : ℕ → Bool) (bits : List Bool) (len : ℕ) : Type 0 where
  pub length_is : length bits ≡ len
  pub each : (k : ℕ) → k < len → get_or bits k false ≡ test k

pub marked : (test : ℕ → Bool) (bits : List Bool) (len : ℕ) → Marks test bits len → bits ≡ map test (range_with_len 0 len)
marked test bits len m =
    ext_get_or false bits (map test (range_with_len 0 len)) (m.length_is ∙ sym (length-map-range_with_len test 0 len))
    (λ i h. let inside : i < len = omega (arith, m.length_is) in
    m.each i inside ∙ sym (get_or-map-range_with_len test 0 len i i false inside (omega arith)))

pub unmarked : (len : ℕ) → Marks (λ k. false) (replicate len false) len
unmarked len = record { length_is = length-replicate len false; each = λ k h. get_or-replicate len k false false h }

-- one index more
pub index_more : (indices : List ℕ) (i index d : ℕ) (bits : List Bool) (len : ℕ) → i < length indices → get_or indices i d ≡ index → index < len →
    Marks (λ k. list_any (nat_eq k) (take i indices)) bits len → Marks (λ k. list_any (nat_eq k) (take (i + 1) indices)) (set bits index true) len
index_more indices i index d bits len h e below m = record {
  length_is = length-set bits index true ∙ m.length_is;
  each = λ k k_below. at_place k k_below (cases_eq k index);
}
  where
    more : (k : ℕ) → list_any (nat_eq k) (take (i + 1) indices) ≡ (list_any (nat_eq k) (take i indices) || nat_eq k index)
    more k = list_any_more (nat_eq k) indices i d h ∙ ap (λ x. list_any (nat_eq k) (take i indices) || nat_eq k x) e

    or-false : (b : Bool) → (b || false) ≡ b
    or-false true = refl
    or-false false = refl

    at_place : (k : ℕ) → k < len → (k ≡ index) ⊎ (k ≡ index → ⊥) → get_or (set bits index true) k false ≡ list_any (nat_eq k) (take (i + 1) indices)
    at_place k k_below (inl same) =
        get_or-set_at bits index k true false same (omega (arith, m.length_is))
        ∙ sym (more k ∙ ap (λ b. list_any (nat_eq k) (take i indices) || b) (eq-eqb k index same) ∙ or-true (list_any (nat_eq k) (take i indices)))
    at_place k k_below (inr other) =
        get_or-set_other bits index k true false other ∙ m.each k k_below
        ∙ sym (more k ∙ ap (λ b. list_any (nat_eq k) (take i indices) || b) (ne_eqb k index other) ∙ or-false (list_any (nat_eq k) (take i indices)))

-- one slice more
pub slice_more : (slices : List (ℕ × ℕ)) (i : ℕ) (slice d : ℕ × ℕ) (bits more : List Bool) (len : ℕ) → i < length slices → get_or slices i d ≡ slice →
    length more ≡ length bits → ((k : ℕ) → k < length bits → get_or more k false ≡ (get_or bits k false || is_within k slice)) →
    Marks (λ k. list_any (is_within k) (take i slices)) bits len → Marks (λ k. list_any (is_within k) (take (i + 1) slices)) more len
slice_more slices i slice d bits more len h e same_length step m = record {
  length_is = same_length ∙ m.length_is;
  each = λ k k_below.
      step k (omega (arith, m.length_is))
      ∙ (ap (λ b. b || is_within k slice) (m.each k k_below)
      ∙ sym (list_any_more (is_within k) slices i d h ∙ ap (λ x. list_any (is_within k) (take i slices) || is_within k x) e));
}
