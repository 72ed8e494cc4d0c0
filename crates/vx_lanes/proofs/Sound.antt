-- A layout that breaks no rule is sound.
use Rattle.std.proofs.Common.{◌≡◌, ℕ, ◌+◌, ◌-◌, ◌%◌, ◌^◌, ◌<◌, ◌≤◌, List, length, ◌∷◌, refl, sym, ◌∙◌, ap, arith, None, Bool, true, false, not, eqb, leb}
use Rattle.std.proofs.lemmas.Bool.Decides.{nat_tests}
use Rattle.vx_lanes.specs.declared.layout.Layout.{Layout}
use Rattle.vx_rows.specs.Types.{AlikeTypes, layer_with}
use Rattle.vx_rows.specs.declared.kinds.Nullability.TheVariants.{NonNullable}
use Rattle.vx_rows.specs.declared.dtype.DType.{DType, out-DType}
use Rattle.vx_rows.specs.declared.dtype.DType.TheOpen.{DType-F}
use Rattle.vx_rows.specs.declared.dtype.Fields.{Fields}
use Rattle.vx_base.specs.Numbers.{is_integer, layer_is_integer}
use Rattle.vx_rows.specs.declared.error.Rule.{Rule}
use Rattle.vx_base.specs.Checks.{all_valid}
use Rattle.vx_lanes.specs.Layouts.{IsLayout, is_u16, is_u32, entries, exceptions, lane_start, index_of}
use Rattle.vx_base.specs.Rules.{first_broken}
use Rattle.vx_lanes.specs.Rules.{layout_fault, any_between, any_entry, over_range, off_lane, off_order, lane_count, lane_offset, lane_offsets_type, lane_offsets_length, lane_offsets_fall, lane_offsets_end, lane_index_type, lane_lengths, lane_too_many, lane_index_range, lane_index_lane, lane_index_order, lane_value_null, offset_rules}
use Rattle.vx_lanes.proofs.Firsts.{any_below_false, short_fits, lane_count_tells, length_tells, fall_tells, not_false}

-- no test is true
pub passed : (x : Rule) (b : Bool) (ts : List (Rule × Bool)) → first_broken ((x, b) ∷ ts) ≡ None → (b ≡ false) × (first_broken ts ≡ None)
unfolding first_broken
passed x true ts e = absurd cc
passed x false ts e = (refl, e)

any_between_false : (test : ℕ → Bool) (from to k : ℕ) → any_between test from to ≡ false → from ≤ k → k < to → test k ≡ false
any_between_false test from to k e h w =
    let here : from + (k - from) ≡ k = omega arith in
    ap test (sym here) ∙ any_below_false (λ j. test (from + j)) (to - from) (k - from) e (omega arith)

any_entry_false : (l : Layout) (test : ℕ → ℕ → Bool) (n g k : ℕ) → any_entry l test n ≡ false → g < n → lane_start l g ≤ k → k < lane_start l (g + 1) → test g k ≡ false
any_entry_false l test n g k e u h w =
    any_between_false (test g) (lane_start l g) (lane_start l (g + 1)) k (any_below_false (λ j. any_between (test j) (lane_start l j) (lane_start l (j + 1))) n g e u) h w

offset_tells : (l : Layout) → lane_offset l ≡ false → l.offset < 1024
unfolding lane_offset
offset_tells l e = grind (arith, nat_tests)

pub end_tells : (l : Layout) → lane_offsets_end l ≡ false → lane_start l (entries l) ≤ exceptions l
unfolding lane_offsets_end
end_tells l e = grind (arith, nat_tests)

lengths_tells : (l : Layout) → lane_lengths l ≡ false → exceptions l ≡ length l.patch_values.rows
unfolding lane_lengths
lengths_tells l e = grind (arith, nat_tests)

many_tells : (l : Layout) → lane_too_many l ≡ false → exceptions l < 2 ^ 32
unfolding lane_too_many
many_tells l e = grind (arith, nat_tests)

range_tells : (l : Layout) (k : ℕ) → lane_index_range l ≡ false → lane_start l 0 ≤ k → k < lane_start l (entries l) → index_of l k < 1024
unfolding lane_index_range
range_tells l k e h w =
    let here : leb 1024 (index_of l k) ≡ false = any_between_false (over_range l) (lane_start l 0) (lane_start l (entries l)) k e h w in
    grind (arith, nat_tests)

lane_tells : (l : Layout) (g k : ℕ) → lane_index_lane l ≡ false → g < entries l → lane_start l g ≤ k → k < lane_start l (g + 1) → index_of l k % l.n_lanes ≡ g % l.n_lanes
unfolding lane_index_lane
lane_tells l g k e u h w =
    let here : not (eqb (index_of l k % l.n_lanes) (g % l.n_lanes)) ≡ false = any_entry_false l (λ j. off_lane l (j % l.n_lanes)) (entries l) g k e u h w in
    grind (arith, nat_tests)

order_tells : (l : Layout) (g k : ℕ) → lane_index_order l ≡ false → g < entries l → lane_start l g < k → k < lane_start l (g + 1) → index_of l (k - 1) < index_of l k
unfolding lane_index_order
order_tells l g k e u h w =
    let here : off_order l (lane_start l g) k ≡ false = any_entry_false l (λ j. off_order l (lane_start l j)) (entries l) g k e u (omega arith) w in
    grind (arith, nat_tests)

pub offsets_type_tells : (l : Layout) → lane_offsets_type l ≡ false → is_u32 l.lane_offsets.dtype ≡ true
unfolding lane_offsets_type
offsets_type_tells l e = not_false _ e

pub index_type_tells : (l : Layout) → lane_index_type l ≡ false → is_u16 l.patch_indices.dtype ≡ true
unfolding lane_index_type
index_type_tells l e = not_false _ e

null_tells : (l : Layout) → lane_value_null l ≡ false → all_valid l.patch_values.rows ≡ true
unfolding lane_value_null
null_tells l e = not_false _ e

-- types that are alike are both types of integers or neither
layer_alike : (y : DType-F DType Fields) → layer_is_integer (layer_with NonNullable y) ≡ layer_is_integer y
layer_alike (DType-F.Bool n) = refl
layer_alike (DType-F.Primitive p n) = refl
layer_alike (DType-F.Decimal d n) = refl
layer_alike (DType-F.Utf8 n) = refl
layer_alike (DType-F.Binary n) = refl
layer_alike (DType-F.List t n) = refl
layer_alike (DType-F.FixedSizeList t k n) = refl
layer_alike (DType-F.Struct fs n) = refl

pub alike_integer : (s t : DType) → AlikeTypes s t → is_integer t ≡ true → is_integer s ≡ true
alike_integer s t a e = sym (layer_alike (out-DType s)) ∙ ap layer_is_integer a ∙ layer_alike (out-DType t) ∙ e

pub alike_tells : (l : Layout) (alike : Bool) → layout_fault l alike ≡ None → alike ≡ true
alike_tells l alike e =
    let p1 = passed _ _ _ e in
    let p2 = passed _ _ _ p1.1 in
    let p3 = passed _ _ _ p2.1 in
    let p4 = passed _ _ _ p3.1 in
    let p5 = passed _ _ _ p4.1 in
    let p6 = passed _ _ _ p5.1 in
    let p7 = passed _ _ _ p6.1 in
    let p8 = passed _ _ _ p7.1 in
    let p9 = passed _ _ _ p8.1 in
    let p10 = passed _ _ _ p9.1 in
    let p11 = passed _ _ _ p10.1 in
    let p12 = passed _ _ _ p11.1 in
    let p13 = passed _ _ _ p12.1 in
    let p14 = passed _ _ _ p13.1 in
    not_false alike p14.0

pub sound : (l : Layout) (alike : Bool) → is_integer l.patch_values.dtype ≡ true → layout_fault l alike ≡ None → IsLayout l
sound l alike i e =
    let p1 = passed _ _ _ e in
    let p2 = passed _ _ _ p1.1 in
    let p3 = passed _ _ _ p2.1 in
    let p4 = passed _ _ _ p3.1 in
    let p5 = passed _ _ _ p4.1 in
    let p6 = passed _ _ _ p5.1 in
    let p7 = passed _ _ _ p6.1 in
    let p8 = passed _ _ _ p7.1 in
    let p9 = passed _ _ _ p8.1 in
    let p10 = passed _ _ _ p9.1 in
    let p11 = passed _ _ _ p10.1 in
    let p12 = passed _ _ _ p11.1 in
    let p13 = passed _ _ _ p12.1 in
    let p14 = passed _ _ _ p13.1 in
    let p15 = passed _ _ _ p14.1 in
    record {
      fits = short_fits l p1.0;
      lanes = lane_count_tells l p2.0;
      offset_within = offset_tells l p3.0;
      offsets_type = offsets_type_tells l p4.0;
      offsets = length_tells l p5.0;
      rising = λ g h. fall_tells l g p6.0 h;
      inside = end_tells l p7.0;
      index_type = index_type_tells l p8.0;
      paired = lengths_tells l p9.0;
      few = many_tells l p10.0;
      in_chunk = λ k h w. range_tells l k p11.0 h w;
      in_lane = λ g k u h w. lane_tells l g k p12.0 u h w;
      in_order = λ g k u h w. order_tells l g k p13.0 u h w;
      integers = i;
      valid = null_tells l p15.0;
    }

-- what the rules of the lane offsets leave
pub record Offsets (l : Layout) : Type 0 where
  pub count : lane_count l ≡ false
  pub kind : is_u32 l.lane_offsets.dtype ≡ true
  pub length : lane_offsets_length l ≡ false
  pub rising : lane_offsets_fall l ≡ false

pub offsets_pass : (l : Layout) → first_broken (offset_rules l) ≡ None → Offsets l
offsets_pass l e =
    let p1 = passed _ _ _ e in
    let p2 = passed _ _ _ p1.1 in
    let p3 = passed _ _ _ p2.1 in
    let p4 = passed _ _ _ p3.1 in
    let p5 = passed _ _ _ p4.1 in
    let p6 = passed _ _ _ p5.1 in
    record { count = p2.0; kind = offsets_type_tells l p4.0; length = p5.0; rising = p6.0 }
