-- A part of a layout stands for the same exceptions.
use Rattle.std.proofs.Common.{◌≡◌, ℕ, zero, suc, ◌+◌, ◌-◌, ◌*◌, ◌/◌, ◌%◌, ◌<◌, ◌≤◌, inl, inr, List, length, slice_index, refl, sym, ◌∙◌, ap, arith, Option, Some, None, Bool, true, false, cond, ◌&&◌, leb, ltb, eqb, nat_lt}
use Rattle.std.specs.Option.{option_or}
use Rattle.std.specs.List.{slice_range}
use Rattle.std.proofs.lemmas.Bool.{cases_eq}
use Rattle.std.proofs.lemmas.Bool.Decides.{nat_tests}
use Rattle.std.proofs.lemmas.List.Edits.{length-between, get_or-between}
use Rattle.std.proofs.Math.Nat.{mul-add-mod_self_right}
use Rattle.std.proofs.lemmas.Nat.{mul-le}
use Rattle.vx_rows.specs.declared.value.Value.{Value}
use Rattle.vx_base.specs.Column.{Flat, flat}
use Rattle.vx_base.specs.Numbers.{numbers_of, magnitude, row_int}
use Rattle.vx_base.proofs.Numbers.{numbers_at}
use Rattle.vx_lanes.proofs.Entries.{starts_rise}
use Rattle.vx_lanes.specs.declared.layout.Layout.{Layout}
use Rattle.vx_lanes.specs.Layouts.{IsLayout, excepts, first_below, exception_of, exceptions, chunks_of, chunk_of, place_of, entries, lane_start, index_of, layout_part, layout_slice, layout_chunks, chunk_row}

-- a number of some rows among others
between : (rs : List (Option Value)) (from to g : ℕ) → from + g < to → to ≤ length rs → slice_index (numbers_of (slice_range rs from to)) g ≡ slice_index (numbers_of rs) (from + g)
between rs from to g h w =
    let long : length (slice_range rs from to) ≡ to - from = length-between rs from to w in
    let here : g < length (slice_range rs from to) = omega arith in
    let there : from + g < length rs = omega arith in
    numbers_at (slice_range rs from to) g here ∙ ap (λ r. magnitude (row_int r)) (get_or-between rs from to g None h) ∙ sym (numbers_at rs (from + g) there)

-- the first entry of the slice, how many entries it has
abbrev pub base : Layout → ℕ → ℕ
base l start = chunk_of l start * l.n_lanes

abbrev pub size : Layout → ℕ → ℕ → ℕ
size l start end = l.n_lanes * chunks_of (place_of l start + (end - start))

pub size_within : (l : Layout) (start end : ℕ) → IsLayout l → start ≤ end → end ≤ l.len → base l start + size l start end ≤ entries l
size_within l start end s h w =
    let chunks : chunk_of l start + chunks_of (place_of l start + (end - start)) ≤ chunks_of (l.offset + l.len) = omega arith in
    let more : l.n_lanes * (chunk_of l start + chunks_of (place_of l start + (end - start))) ≤ l.n_lanes * chunks_of (l.offset + l.len) = mul-le l.n_lanes _ l.n_lanes _ (omega arith) chunks in
    omega (arith, s.offsets)

pub slice_entries : (l : Layout) (start end : ℕ) → IsLayout l → start ≤ end → end ≤ l.len → length (layout_slice l start end).lane_offsets.rows ≡ size l start end + 1
unfolding layout_part
slice_entries l start end s h w =
    omega (arith, s.offsets, size_within l start end s h w, length-between l.lane_offsets.rows (base l start) (base l start + (size l start end + 1)) (omega (arith, s.offsets, size_within l start end s h w)))

pub slice_start : (l : Layout) (start end g : ℕ) → IsLayout l → start ≤ end → end ≤ l.len → g ≤ size l start end → lane_start (layout_slice l start end) g ≡ lane_start l (base l start + g)
unfolding layout_part
slice_start l start end g s o w h = between l.lane_offsets.rows (base l start) (base l start + (size l start end + 1)) g (omega arith) (omega (arith, s.offsets, size_within l start end s o w))

pub slice_sound : (l : Layout) (start end : ℕ) → IsLayout l → start ≤ end → end ≤ l.len → IsLayout (layout_slice l start end)
unfolding layout_part
slice_sound l start end s h w =
    let b : ℕ = base l start in
    let z : ℕ = size l start end in
    let within : b + z ≤ entries l = size_within l start end s h w in
    let many : entries (layout_slice l start end) ≡ z = omega (arith, slice_entries l start end s h w) in
    let at : (g : ℕ) → g ≤ z → lane_start (layout_slice l start end) g ≡ lane_start l (b + g) = λ g u. slice_start l start end g s h w u in
    let next : (g : ℕ) → g < z → lane_start (layout_slice l start end) (g + 1) ≡ lane_start l (b + g + 1) = λ g u. at (g + 1) (omega arith) ∙ ap (lane_start l) (omega arith) in
    let last : lane_start (layout_slice l start end) (entries (layout_slice l start end)) ≡ lane_start l (b + z) = ap (lane_start (layout_slice l start end)) many ∙ at z (omega arith) in
    let first : lane_start (layout_slice l start end) 0 ≡ lane_start l b = at 0 (omega arith) ∙ ap (lane_start l) (omega arith) in
    record {
      fits = omega (arith, s.fits);
      lanes = s.lanes;
      offset_within = omega arith;
      offsets_type = s.offsets_type;
      offsets = slice_entries l start end s h w;
      rising = λ g u. omega (arith, at g (omega arith), next g (omega arith), s.rising (b + g) (omega arith));
      inside = omega (arith, last, starts_rise l (b + z) (entries l) s within (omega arith), s.inside);
      index_type = s.index_type;
      paired = s.paired;
      few = s.few;
      in_chunk = λ k from to. s.in_chunk k (omega (arith, first, starts_rise l 0 b s (omega arith) (omega arith))) (omega (arith, last, starts_rise l (b + z) (entries l) s within (omega arith)));
      in_lane = λ g k u from to. s.in_lane (b + g) k (omega arith) (omega (arith, at g (omega arith))) (omega (arith, next g (omega arith))) ∙ mul-add-mod_self_right (chunk_of l start) l.n_lanes g;
      in_order = λ g k u from to. s.in_order (b + g) k (omega arith) (omega (arith, at g (omega arith))) (omega (arith, next g (omega arith)));
      integers = s.integers;
      valid = s.valid;
    }

-- equal tests find the same
first_same : (t u : ℕ → Bool) (n : ℕ) → ((k : ℕ) → t k ≡ u k) → first_below t n ≡ first_below u n
unfolding first_below
first_same t u zero e = refl
first_same t u (suc n) e = ap (λ o. option_or o (cond (t n) (Some n) None)) (first_same t u n e) ∙ ap (λ b. option_or (first_below u n) (cond b (Some n) None)) (e n)

excepts_slice : (l : Layout) (start end row k : ℕ) → IsLayout l → start ≤ end → end ≤ l.len → row < end - start → excepts (layout_slice l start end) row k ≡ excepts l (start + row) k
unfolding excepts layout_part
excepts_slice l start end row k s o h w =
    let m : Layout = layout_slice l start end in
    let n : ℕ = l.n_lanes in
    let chunk : chunk_of l start + chunk_of m row ≡ chunk_of l (start + row) = omega arith in
    let place : place_of m row ≡ place_of l (start + row) = omega arith in
    let few : chunk_of m row + 1 ≤ chunks_of (place_of l start + (end - start)) = omega arith in
    let inside : n * (chunk_of m row + 1) ≤ size l start end = mul-le n (chunk_of m row + 1) n (chunks_of (place_of l start + (end - start))) (omega arith) few in
    let near : base l start + chunk_of m row * n ≡ chunk_of l (start + row) * n = omega (arith, ap (λ c. n * c) chunk) in
    let far : base l start + (chunk_of m row + 1) * n ≡ (chunk_of l (start + row) + 1) * n = omega (arith, ap (λ c. n * c) chunk) in
    let from : lane_start m (chunk_of m row * n) ≡ lane_start l (chunk_of l (start + row) * n) = slice_start l start end (chunk_of m row * n) s o h (omega arith) ∙ ap (lane_start l) near in
    let to : lane_start m ((chunk_of m row + 1) * n) ≡ lane_start l ((chunk_of l (start + row) + 1) * n) = slice_start l start end ((chunk_of m row + 1) * n) s o h (omega arith) ∙ ap (lane_start l) far in
    ap (λ x. leb x k && (ltb k (lane_start m ((chunk_of m row + 1) * n)) && eqb (index_of l k) (place_of m row))) from
    ∙ ap (λ x. leb (lane_start l (chunk_of l (start + row) * n)) k && (ltb k x && eqb (index_of l k) (place_of m row))) to
    ∙ ap (λ x. leb (lane_start l (chunk_of l (start + row) * n)) k && (ltb k (lane_start l ((chunk_of l (start + row) + 1) * n)) && eqb (index_of l k) x)) place

pub slice_means : (l : Layout) (start end row : ℕ) → IsLayout l → start ≤ end → end ≤ l.len → row < end - start → exception_of (layout_slice l start end) row ≡ exception_of l (start + row)
unfolding layout_part
slice_means l start end row s o h w = first_same (excepts (layout_slice l start end) row) (excepts l (start + row)) (exceptions l) (λ k. excepts_slice l start end row k s o h w)

-- a layout of the parts of a part is that part
pub part_is : (l : Layout) (len n offset from to : ℕ) (los is vs : Flat) → n ≡ l.n_lanes → los ≡ flat l.lane_offsets.dtype (slice_range l.lane_offsets.rows from to) → is ≡ l.patch_indices → vs ≡ l.patch_values →
    ◌≡◌ {A = Layout} (record { len = len; n_lanes = n; offset = offset; lane_offsets = los; patch_indices = is; patch_values = vs }) (layout_part l len offset from to)
unfolding layout_part
part_is l len n offset from to los is vs en el ei ev = cc (en, el, ei, ev)

pub slice_is : (l : Layout) (start end n place count : ℕ) → n ≡ l.n_lanes → place ≡ l.offset + start → count ≡ chunks_of (place % 1024 + (end - start)) →
    layout_part l (end - start) (place % 1024) (place / 1024 * n) (place / 1024 * n + (n * count + 1)) ≡ layout_slice l start end
slice_is l start end n place count en ep ec = cc (en, ep, ec)

-- the layout of no row
pub none_sound : (l : Layout) → IsLayout l → IsLayout (layout_part l 0 0 0 1)
unfolding layout_part
none_sound l s =
    let m : Layout = layout_part l 0 0 0 1 in
    let some : 1 ≤ length l.lane_offsets.rows = omega (arith, s.offsets) in
    let one : length m.lane_offsets.rows ≡ 1 = omega (arith, length-between l.lane_offsets.rows 0 1 some) in
    let none : entries m ≡ 0 = omega arith in
    let first : lane_start m 0 ≡ lane_start l 0 = between l.lane_offsets.rows 0 1 0 (omega arith) some in
    let last : lane_start m (entries m) ≡ lane_start l 0 = ap (lane_start m) none ∙ first in
    record {
      fits = omega arith;
      lanes = s.lanes;
      offset_within = omega arith;
      offsets_type = s.offsets_type;
      offsets = omega arith;
      rising = λ g u. absurd (omega arith);
      inside = omega (arith, last, starts_rise l 0 (entries l) s (omega arith) (omega arith), s.inside);
      index_type = s.index_type;
      paired = s.paired;
      few = s.few;
      in_chunk = λ k from to. absurd (omega arith);
      in_lane = λ g k u from to. absurd (omega arith);
      in_order = λ g k u from to. absurd (omega arith);
      integers = s.integers;
      valid = s.valid;
    }

-- chunks: some, or none
pub chunks_some : (l : Layout) (start end : ℕ) → start < end → layout_chunks l start end ≡ layout_slice l (chunk_row l start) (chunk_row l end)
chunks_some l start end h =
    let test : nat_lt start end ≡ true = grind (arith, nat_tests) in
    ap (λ b. cond b (layout_slice l (chunk_row l start) (chunk_row l end)) (layout_part l 0 0 0 1)) test

pub chunks_none : (l : Layout) (start end : ℕ) → start ≡ end → layout_chunks l start end ≡ layout_part l 0 0 0 1
chunks_none l start end h =
    let test : nat_lt start end ≡ false = grind (arith, nat_tests) in
    ap (λ b. cond b (layout_slice l (chunk_row l start) (chunk_row l end)) (layout_part l 0 0 0 1)) test

-- the first row of chunks stands where the layout's does, or at the front of a later chunk
pub chunk_place : (l : Layout) (start end from to : ℕ) → IsLayout l → start < end → end ≤ chunks_of (l.offset + l.len) → from ≡ chunk_row l start → (layout_slice l from to).offset ≡ cond (eqb start 0 && nat_lt start end) l.offset 0
unfolding layout_part
chunk_place l start end from to s h w e =
    elim (cases_eq start 0) as (λ _. place_of l from ≡ cond (eqb start 0 && nat_lt start end) l.offset 0) [
      | inl first ↦
          let test : (eqb start 0 && nat_lt start end) ≡ true = grind (arith, nat_tests) in
          let same : place_of l from ≡ l.offset = omega (arith, s.offset_within, e, first) in
          same ∙ sym (ap (λ b. cond b l.offset 0) test)
      | inr later ↦
          let test : (eqb start 0 && nat_lt start end) ≡ false = grind (arith, nat_tests) in
          let front : place_of l from ≡ 0 = omega (arith, s.offset_within, e, later) in
          front ∙ sym (ap (λ b. cond b l.offset 0) test)
    ]

pub none_place : (l : Layout) (start end : ℕ) → start ≡ end → (layout_part l 0 0 0 1).offset ≡ cond (eqb start 0 && nat_lt start end) l.offset 0
unfolding layout_part
none_place l start end e =
    let test : (eqb start 0 && nat_lt start end) ≡ false = grind (arith, nat_tests) in
    sym (ap (λ b. cond b l.offset 0) test)
