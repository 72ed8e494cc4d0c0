-- Bits of rows become bits of the rows under the exceptions.
use Rattle.std.proofs.Common.{◌≡◌, ℕ, ◌+◌, ◌<◌, ℤ, List, length, get_or, refl, sym, ◌∙◌, ap, arith, Option, Some, None, Bool, true, false}
use Rattle.std.specs.Option.{option_map, is_some}
use Rattle.std.proofs.lemmas.List.{ext_get_or, get_or-map, length-map}
use Rattle.vx_rows.specs.declared.value.Value.{Value, Bool as Truth, Int}
use Rattle.vx_lanes.specs.declared.layout.Layout.{Layout}
use Rattle.vx_lanes.specs.Layouts.{IsLayout, exception_of, overlaid, pairs_of, paired_with, replaced, value_of}
use Rattle.vx_lanes.proofs.Columns.{exception_inside, exception_value, overlaid_length}
use Rattle.vx_lanes.proofs.Pairs.{overlaid_means, pairs_mean}
use Rattle.vx_scalars.specs.declared.operator.CompareOperator.{CompareOperator}
use Rattle.vx_scalars.specs.Elementwise.{compared, compared_row}
use Rattle.vx_lane_compare.specs.Bits.{as_rows, bit_under, compared_bits}
use Rattle.vx_lane_compare.proofs.Under.{bit_at, bits_length}

-- a row's exception is a value
abbrev IsPresent : Option (Option Value) → Type 0
IsPresent exception = (row : Option Value) → exception ≡ Some row → is_some row ≡ true

present : (l : Layout) (row : ℕ) → IsLayout l → row < l.len → IsPresent (paired_with (pairs_of l) (l.offset + row))
present l row s h x e = by_cases (exception_of l row) refl
  where
    by_cases : (o : Option ℕ) → exception_of l row ≡ o → is_some x ≡ true
    by_cases None f =
        let never : None ≡ Some x = sym (pairs_mean l row s h ∙ ap (option_map (value_of l)) f) ∙ e in
        absurd cc
    by_cases (Some k) f =
        let same : Some (value_of l k) ≡ Some x = sym (pairs_mean l row s h ∙ ap (option_map (value_of l)) f) ∙ e in
        let value : value_of l k ≡ x = cc in
        sym (ap is_some value) ∙ exception_value l k s (exception_inside l row k f)

one_row : (op : CompareOperator) (value : ℤ) (bit : Option Bool) (row : Option Value) (exception : Option (Option Value)) → IsPresent exception → option_map Truth bit ≡ compared_row op (Some (Int value)) row →
    option_map Truth (bit_under op value bit exception) ≡ compared_row op (Some (Int value)) (replaced row exception)
one_row op value None None exception p e = refl
one_row op value None (Some v) exception p e = absurd cc
one_row op value (Some b) None exception p e = absurd cc
one_row op value (Some b) (Some v) None p e = e
one_row op value (Some b) (Some v) (Some None) p e = let never : false ≡ true = p None refl in absurd cc
one_row op value (Some b) (Some v) (Some (Some w)) p e = refl

pub bits_mean : (l : Layout) (op : CompareOperator) (value : ℤ) (bits : List (Option Bool)) (rows : List (Option Value)) → IsLayout l → length bits ≡ l.len → as_rows bits ≡ compared op (Some (Int value)) rows →
    as_rows (compared_bits l op value bits) ≡ compared op (Some (Int value)) (overlaid l rows)
bits_mean l op value bits rows s m e =
    let long : length bits ≡ length rows = sym (length-map bits (option_map Truth)) ∙ ap length e ∙ length-map rows (compared_row op (Some (Int value))) in
    let new : length (as_rows (compared_bits l op value bits)) ≡ length bits = length-map (compared_bits l op value bits) (option_map Truth) ∙ bits_length l op value 0 bits in
    let over : length (compared op (Some (Int value)) (overlaid l rows)) ≡ length rows = length-map (overlaid l rows) (compared_row op (Some (Int value))) ∙ overlaid_length l rows in
    ext_get_or None (as_rows (compared_bits l op value bits)) (compared op (Some (Int value)) (overlaid l rows)) (new ∙ long ∙ sym over) (λ i h.
    let low : i < length bits = omega (arith, new) in
    let here : option_map Truth (get_or bits i None) ≡ compared_row op (Some (Int value)) (get_or rows i None) =
    sym (get_or-map (option_map Truth) bits i None None low) ∙ ap (λ (rs : List (Option Value)). get_or rs i None) e ∙ get_or-map (compared_row op (Some (Int value))) rows i None None (omega (arith, long)) in
    get_or-map (option_map Truth) (compared_bits l op value bits) i None None (omega (arith, bits_length l op value 0 bits))
    ∙ ap (option_map Truth) (bit_at l op value bits i)
    ∙ one_row op value (get_or bits i None) (get_or rows i None) (paired_with (pairs_of l) (l.offset + i)) (present l i s (omega arith)) here
    ∙ sym (get_or-map (compared_row op (Some (Int value))) (overlaid l rows) i None None (omega (arith, long, overlaid_length l rows)) ∙ ap (compared_row op (Some (Int value))) (overlaid_means l rows i s (omega arith))))
