-- A sound layout breaks no rule.
use Rattle.std.proofs.Common.{◌≡◌, ℕ, suc, ◌+◌, ◌-◌, ◌%◌, ◌^◌, ◌<◌, ◌≤◌, List, [], ◌∷◌, length, slice_index, refl, ap, arith, add-one, inl, inr, Bool, true, false, not, ◌&&◌, None, eqb}
use Rattle.std.proofs.lemmas.Bool.{cases_lt}
use Rattle.std.proofs.lemmas.Bool.Decides.{nat_tests}
use Rattle.std.specs.Prelude.{nat_le, nat_lt}
use Rattle.vx_base.specs.Numbers.{numbers_of}
use Rattle.vx_base.specs.Checks.{non_decreasing}
use Rattle.vx_base.proofs.CheckLemmas.{length_numbers}
use Rattle.vx_lanes.specs.declared.layout.Layout.{Layout}
use Rattle.vx_lanes.specs.Layouts.{IsLayout, entries, exceptions, lane_start, index_of}
use Rattle.vx_lanes.specs.Rules.{any_between, any_entry, over_range, off_lane, off_order, too_long, lane_count, lane_offset, lane_offsets_type, lane_offsets_length, lane_offsets_fall, lane_offsets_end, lane_index_type, lane_lengths, lane_too_many, lane_index_range, lane_index_lane, lane_index_order, lane_value_null, layout_fault}
use Rattle.vx_lanes.proofs.Firsts.{any_below_some}
use Rattle.std.proofs.lemmas.Bool.{eq-eqb}
use Rattle.vx_metadata.proofs.Bounds.{skip, skip_none, none_below, same_numbers}

none_between : (test : ℕ → Bool) (from to : ℕ) → ((k : ℕ) → from ≤ k → k < to → test k ≡ false) → any_between test from to ≡ false
none_between test from to h = none_below (λ j. test (from + j)) (to - from) (λ j w. h (from + j) (omega arith) (omega arith))

none_entered : (l : Layout) (test : ℕ → ℕ → Bool) (n : ℕ) → ((g k : ℕ) → g < n → lane_start l g ≤ k → k < lane_start l (g + 1) → test g k ≡ false) → any_entry l test n ≡ false
none_entered l test n h = none_below (λ g. any_between (test g) (lane_start l g) (lane_start l (g + 1))) n (λ g w. none_between (test g) (lane_start l g) (lane_start l (g + 1)) (λ k a b. h g k w a b))

never_falls : (xs : List ℕ) → ((k : ℕ) → suc k < length xs → slice_index xs k ≤ slice_index xs (suc k)) → non_decreasing xs ≡ true
never_falls [] h = refl
never_falls (x ∷ []) h = refl
never_falls (x ∷ y ∷ ys) h =
    let first : x ≤ y = h 0 (omega arith) in
    let here : nat_le x y ≡ true = grind arith in
    rw here (never_falls (y ∷ ys) (λ k w. h (suc k) (omega arith)))

long_clean : (l : Layout) → IsLayout l → too_long l ≡ false
unfolding too_long
long_clean l s = let fits : l.offset + l.len < 2 ^ 64 = s.fits in grind (arith, nat_tests)

count_clean : (l : Layout) → IsLayout l → lane_count l ≡ false
unfolding lane_count
count_clean l s = ap not (any_below_some (λ c. eqb l.n_lanes (2 ^ c)) 8 s.lanes.0 s.lanes.1 (eq-eqb l.n_lanes (2 ^ s.lanes.0) s.lanes.2))

offset_clean : (l : Layout) → IsLayout l → lane_offset l ≡ false
unfolding lane_offset
offset_clean l s = let within : l.offset < 1024 = s.offset_within in grind (arith, nat_tests)

offsets_type_clean : (l : Layout) → IsLayout l → lane_offsets_type l ≡ false
unfolding lane_offsets_type
offsets_type_clean l s = ap not s.offsets_type

offsets_length_clean : (l : Layout) → IsLayout l → lane_offsets_length l ≡ false
unfolding lane_offsets_length
offsets_length_clean l s = same_numbers _ _ s.offsets

fall_clean : (l : Layout) → IsLayout l → lane_offsets_fall l ≡ false
unfolding lane_offsets_fall
fall_clean l s = ap not (never_falls (numbers_of l.lane_offsets.rows) (λ k w.
    let long : length (numbers_of l.lane_offsets.rows) ≡ length l.lane_offsets.rows = length_numbers l.lane_offsets.rows in
    let here : lane_start l k ≤ lane_start l (k + 1) = s.rising k (omega arith) in
    let next : lane_start l (k + 1) ≡ lane_start l (suc k) = ap (lane_start l) (add-one k) in
    omega arith))

end_clean : (l : Layout) → IsLayout l → lane_offsets_end l ≡ false
unfolding lane_offsets_end
end_clean l s = let inside : lane_start l (entries l) ≤ exceptions l = s.inside in grind (arith, nat_tests)

index_type_clean : (l : Layout) → IsLayout l → lane_index_type l ≡ false
unfolding lane_index_type
index_type_clean l s = ap not s.index_type

lengths_clean : (l : Layout) → IsLayout l → lane_lengths l ≡ false
unfolding lane_lengths
lengths_clean l s = same_numbers _ _ s.paired

many_clean : (l : Layout) → IsLayout l → lane_too_many l ≡ false
unfolding lane_too_many
many_clean l s = let few : exceptions l < 2 ^ 32 = s.few in grind (arith, nat_tests)

range_clean : (l : Layout) → IsLayout l → lane_index_range l ≡ false
unfolding lane_index_range
range_clean l s = none_between (over_range l) (lane_start l 0) (lane_start l (entries l)) (λ k a b. let here : index_of l k < 1024 = s.in_chunk k a b in at (index_of l k) here)
  where
    at : (i : ℕ) → i < 1024 → nat_le 1024 i ≡ false
    at i h = grind (arith, nat_tests)

lane_clean : (l : Layout) → IsLayout l → lane_index_lane l ≡ false
unfolding lane_index_lane
lane_clean l s = none_entered l (λ g. off_lane l (g % l.n_lanes)) (entries l) (λ g k u a b. same_numbers _ _ (s.in_lane g k u a b))

order_clean : (l : Layout) → IsLayout l → lane_index_order l ≡ false
unfolding lane_index_order
order_clean l s = none_entered l (λ g. off_order l (lane_start l g)) (entries l) (λ g k u a b. at (lane_start l g) k (index_of l (k - 1)) (index_of l k) (λ w. s.in_order g k u w b))
  where
    at : (from k before here : ℕ) → (from < k → before < here) → (nat_lt from k && nat_le here before) ≡ false
    at from k before here h = elim (cases_lt from k) as (λ _. (nat_lt from k && nat_le here before) ≡ false) [
      | inl below ↦
          let up : before < here = h below in
          let yes : nat_lt from k ≡ true = grind arith in
          let no : nat_le here before ≡ false = grind arith in
          rw (yes, no) refl
      | inr above ↦
          let no : nat_lt from k ≡ false = grind arith in
          rw no refl
    ]

null_clean : (l : Layout) → IsLayout l → lane_value_null l ≡ false
unfolding lane_value_null
null_clean l s = ap not s.valid

pub layout_clean : (l : Layout) → IsLayout l → layout_fault l true ≡ None
layout_clean l s =
    skip _ _ _ (long_clean l s) (skip _ _ _ (count_clean l s) (skip _ _ _ (offset_clean l s) (skip _ _ _ (offsets_type_clean l s) (skip _ _ _ (offsets_length_clean l s) (skip _ _ _ (fall_clean l s)
    (skip _ _ _ (end_clean l s) (skip _ _ _ (index_type_clean l s) (skip _ _ _ (lengths_clean l s) (skip _ _ _ (many_clean l s) (skip _ _ _ (range_clean l s) (skip _ _ _ (lane_clean l s) (skip _ _ _ (order_clean l s)
    (skip _ _ _ refl (skip _ _ _ (null_clean l s) skip_none))))))))))))))
