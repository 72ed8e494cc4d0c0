-- Boundaries that break no rule, and those of an array, which break none.
use Rattle.std.proofs.Common.{◌≡◌, ℕ, zero, suc, ◌+◌, ◌-◌, ◌<◌, ◌≤◌, List, [], ◌∷◌, map, length, take, slice_index, get_or, refl, ◌∙◌, ap, arith, add-one, Bool, true, false, cond, ◌||◌, not, None, Some, eqb, pos}
use Rattle.std.proofs.lemmas.Bool.{eq-eqb, false≢true}
use Rattle.std.proofs.lemmas.Bool.Decides.{nat_tests}
use Rattle.std.proofs.lemmas.List.{length-map}
use Rattle.std.specs.List.Sorted.{IsNonDecreasing}
use Rattle.vx_rows.specs.declared.error.Rule.{Rule}
use Rattle.vx_rows.specs.declared.kinds.Nullability.TheVariants.{NonNullable}
use Rattle.vx_rows.specs.declared.kinds.PType.TheVariants.{U64}
use Rattle.vx_rows.specs.declared.dtype.DType.{DType, out-DType}
use Rattle.vx_rows.specs.declared.dtype.DType.TheOpen.{DType-F}
use Rattle.vx_rows.specs.declared.dtype.DType.TheVariants.{outs-Primitive}
use Rattle.vx_rows.specs.declared.dtype.Fields.{Fields}
use Rattle.vx_rows.specs.declared.value.Value.TheVariants.{outs-Int}
use Rattle.vx_base.specs.Column.{Flat}
use Rattle.vx_base.specs.Numbers.{numbers_of, row_int, magnitude, layer_int, is_unsigned, layer_is_unsigned}
use Rattle.vx_base.specs.Checks.{non_decreasing}
use Rattle.vx_base.specs.Rules.{first_broken}
use Rattle.vx_base.proofs.CheckLemmas.{non_decreasing-says, says-non_decreasing, length_numbers}
use Rattle.vx_lanes.specs.Rules.{any_below}
use Rattle.vx_lanes.proofs.Firsts.{any_below_false, not_false}
use Rattle.vx_lanes.proofs.Sound.{passed}
use Rattle.vx_chunks.specs.Bounds.{total, running}
use Rattle.vx_chunks.specs.Offsets.{offset_row, offsets_of}
use Rattle.vx_chunks.proofs.Sums.{length-running, get_or-running, total-take_all, total-take_more, total-take_mono}
use Rattle.vx_metadata.specs.Boundaries.{layer_is_u64, bound_at, off_span, boundary_type, boundary_count, boundary_start, boundary_fall, boundary_end, boundary_length, boundary_fault}

-- ---- what boundaries that break no rule say

u64_layer : (y : DType-F DType Fields) → layer_is_u64 y ≡ true → layer_is_unsigned y ≡ true
u64_layer (DType-F.Primitive U64 NonNullable) e = refl
u64_layer y e = absurd (false≢true e)

pub type_tells : (offsets : Flat) → boundary_type offsets ≡ false → is_unsigned offsets.dtype ≡ true
unfolding boundary_type
type_tells offsets e = u64_layer (out-DType offsets.dtype) (not_false _ e)

pub count_tells : (offsets : Flat) (lens : List ℕ) → boundary_count offsets lens ≡ false → length offsets.rows ≡ length lens + 1
unfolding boundary_count
count_tells offsets lens e = grind (arith, nat_tests)

start_tells : (offsets : Flat) → boundary_start offsets ≡ false → bound_at offsets 0 ≡ 0
unfolding boundary_start
start_tells offsets e = grind (arith, nat_tests)

fall_tells : (offsets : Flat) → boundary_fall offsets ≡ false → non_decreasing (numbers_of offsets.rows) ≡ true
unfolding boundary_fall
fall_tells offsets e = not_false _ e

end_tells : (len : ℕ) (offsets : Flat) → boundary_end len offsets ≡ false → bound_at offsets (length offsets.rows - 1) ≡ len
unfolding boundary_end
end_tells len offsets e = grind (arith, nat_tests)

span_tells : (offsets : Flat) (lens : List ℕ) (k : ℕ) → boundary_length offsets lens ≡ false → k < length lens → slice_index lens k ≡ bound_at offsets (k + 1) - bound_at offsets k
unfolding boundary_length
span_tells offsets lens k e h =
    let here : not (eqb (slice_index lens k) (bound_at offsets (k + 1) - bound_at offsets k)) ≡ false = any_below_false (off_span offsets lens) (length lens) k e h in
    grind (arith, nat_tests)

-- numbers that are each the one before it and a length end at the sum of the lengths
spans_sum : (bound : ℕ → ℕ) (lens : List ℕ) → ((k : ℕ) → k < length lens → bound k + slice_index lens k ≡ bound (suc k)) → bound 0 + total lens ≡ bound (length lens)
spans_sum bound [] h = omega arith
spans_sum bound (n ∷ ns) h =
    let first : bound 0 + n ≡ bound 1 = h 0 (omega arith) in
    let rest : bound 1 + total ns ≡ bound (suc (length ns)) = spans_sum (λ k. bound (suc k)) ns (λ k w. h (suc k) (omega arith)) in
    omega arith

-- the chunks have as many rows as are declared
pub bounded_total : (len : ℕ) (offsets : Flat) (lens : List ℕ) → boundary_fault len offsets lens ≡ None → total lens ≡ len
bounded_total len offsets lens e =
    let p1 = passed _ _ _ e in
    let p2 = passed _ _ _ p1.1 in
    let p3 = passed _ _ _ p2.1 in
    let p4 = passed _ _ _ p3.1 in
    let p5 = passed _ _ _ p4.1 in
    let p6 = passed _ _ _ p5.1 in
    let count : length offsets.rows ≡ length lens + 1 = count_tells offsets lens p2.0 in
    let start : bound_at offsets 0 ≡ 0 = start_tells offsets p3.0 in
    let up = fall_tells offsets p4.0 in
    let end : bound_at offsets (length offsets.rows - 1) ≡ len = end_tells len offsets p5.0 in
    let last : length offsets.rows - 1 ≡ length lens = omega arith in
    let ends : bound_at offsets (length offsets.rows - 1) ≡ bound_at offsets (length lens) = ap (bound_at offsets) last in
    let sum : bound_at offsets 0 + total lens ≡ bound_at offsets (length lens) = spans_sum (bound_at offsets) lens (λ k w.
    let next : bound_at offsets (k + 1) ≡ bound_at offsets (suc k) = ap (bound_at offsets) (add-one k) in
    let span : slice_index lens k ≡ bound_at offsets (k + 1) - bound_at offsets k = span_tells offsets lens k p6.0 w in
    let rise : bound_at offsets k ≤ bound_at offsets (k + 1) = non_decreasing-says (numbers_of offsets.rows) up k (k + 1) 0 (omega arith) (omega (arith, length_numbers offsets.rows)) in
    omega arith) in
    omega arith

-- ---- an array's own boundaries

pub skip : (rule : Rule) (broken : Bool) (rules : List (Rule × Bool)) → broken ≡ false → first_broken rules ≡ None → first_broken ((rule, broken) ∷ rules) ≡ None
unfolding first_broken
skip rule broken rules e h = ap (λ b. cond b (Some rule) (first_broken rules)) e ∙ h

pub skip_none : first_broken [] ≡ None
unfolding first_broken
skip_none = refl

pub none_below : (test : ℕ → Bool) (n : ℕ) → ((k : ℕ) → k < n → test k ≡ false) → any_below test n ≡ false
unfolding any_below
none_below test zero h = refl
none_below test (suc n) h = ap (λ b. b || test n) (none_below test n (λ k w. h k (omega arith))) ∙ h n (omega arith)

pub same_numbers : (a b : ℕ) → a ≡ b → not (eqb a b) ≡ false
same_numbers a b e = ap not (eq-eqb a b e)

number_is : (n : ℕ) → magnitude (row_int (offset_row n)) ≡ n
number_is n = ap (λ z. magnitude (layer_int z)) (outs-Int (pos n))

own_numbers : (ns : List ℕ) → numbers_of (map offset_row ns) ≡ ns
own_numbers [] = refl
own_numbers (n ∷ ns) = ap (λ (k : ℕ). k ∷ numbers_of (map offset_row ns)) (number_is n) ∙ ap (λ (ks : List ℕ). n ∷ ks) (own_numbers ns)

own_length : (lens : List ℕ) → length (offsets_of lens).rows ≡ length lens + 1
own_length lens = length-map (running 0 lens) offset_row ∙ length-running 0 lens

own_bound : (lens : List ℕ) (k : ℕ) → k ≤ length lens → bound_at (offsets_of lens) k ≡ total (take k lens)
own_bound lens k h =
    let here : get_or (running 0 lens) k 0 ≡ 0 + total (take k lens) = get_or-running 0 lens k 0 h in
    ap (λ (ns : List ℕ). slice_index ns k) (own_numbers (running 0 lens)) ∙ omega arith

own_type : (lens : List ℕ) → boundary_type (offsets_of lens) ≡ false
unfolding boundary_type
own_type lens = ap (λ t. not (layer_is_u64 t)) (outs-Primitive U64 NonNullable)

own_count : (lens : List ℕ) → boundary_count (offsets_of lens) lens ≡ false
unfolding boundary_count
own_count lens = same_numbers _ _ (own_length lens)

own_start : (lens : List ℕ) → boundary_start (offsets_of lens) ≡ false
unfolding boundary_start
own_start lens = same_numbers _ _ (own_bound lens 0 (omega arith))

own_fall : (lens : List ℕ) → boundary_fall (offsets_of lens) ≡ false
unfolding boundary_fall
own_fall lens = ap not (ap non_decreasing (own_numbers (running 0 lens)) ∙ says-non_decreasing (running 0 lens) up)
  where
    up : IsNonDecreasing (running 0 lens)
    up i j d h w =
        let long : length (running 0 lens) ≡ length lens + 1 = length-running 0 lens in
        let low = get_or-running 0 lens i d (omega arith) in
        let high = get_or-running 0 lens j d (omega arith) in
        let between = total-take_mono lens i j (omega arith) in
        omega arith

own_end : (lens : List ℕ) → boundary_end (total lens) (offsets_of lens) ≡ false
unfolding boundary_end
own_end lens =
    let long : length (offsets_of lens).rows ≡ length lens + 1 = own_length lens in
    let last : length (offsets_of lens).rows - 1 ≡ length lens = omega arith in
    same_numbers _ _ (ap (bound_at (offsets_of lens)) last ∙ own_bound lens (length lens) (omega arith) ∙ total-take_all lens)

own_spans : (lens : List ℕ) → boundary_length (offsets_of lens) lens ≡ false
unfolding boundary_length
own_spans lens = none_below (off_span (offsets_of lens) lens) (length lens) (λ k h.
    let from : bound_at (offsets_of lens) k ≡ total (take k lens) = own_bound lens k (omega arith) in
    let to : bound_at (offsets_of lens) (k + 1) ≡ total (take (k + 1) lens) = own_bound lens (k + 1) (omega arith) in
    let more : total (take (k + 1) lens) ≡ total (take k lens) + slice_index lens k = total-take_more lens k 0 h in
    let span : slice_index lens k ≡ bound_at (offsets_of lens) (k + 1) - bound_at (offsets_of lens) k = omega arith in
    same_numbers _ _ span)

pub own_bounded : (lens : List ℕ) → boundary_fault (total lens) (offsets_of lens) lens ≡ None
own_bounded lens =
    skip _ _ _ (own_type lens) (skip _ _ _ (own_count lens) (skip _ _ _ (own_start lens) (skip _ _ _ (own_fall lens) (skip _ _ _ (own_end lens) (skip _ _ _ (own_spans lens) skip_none)))))
