-- The pairs of exceptions, place by place.
use Rattle.std.proofs.Common.{ℕ, ◌≡◌, ◌<◌, ◌+◌, ◌-◌, ◌∙◌, ap, sym, refl, arith, List, length, get_or}
use Rattle.std.specs.Prelude.{Option, None}
use Rattle.std.proofs.lemmas.List.{length-map, get_or-map, get_or_default}
use Rattle.std.proofs.lemmas.Slice.Zip.{get_or-zip}
use Rattle.vx_rows.specs.declared.value.Value.{Value}
use Rattle.vx_patches.specs.Places.{indices_of, rows_of}
use Rattle.vx_patches.specs.Pairs.{Overlay, IsOverlay, pairs_of, firsts}
use Rattle.vx_patches.proofs.Counts.{above_first, below_last, rise-le}
use Rattle.vx_patches.proofs.Overlays.{rows_now, count_now}
use Rattle.vx_patches.proofs.Slices.{rising_rows}

module _ (o : Overlay) (s : IsOverlay o) where
  firsts_are : rows_of o.index ≡ firsts (pairs_of o)
  firsts_are = rows_now o o refl s

  long_rows : length (rows_of o.index) ≡ length (indices_of o.index)
  long_rows = length-map (indices_of o.index) (λ n. n - o.index.offset)

  pub value_inside : (k : ℕ) → k < length (pairs_of o) → k < length o.values.rows
  value_inside k h = omega (arith, s.values, count_now o o refl s)

  pub row_below : (k : ℕ) → k < length (pairs_of o) → get_or (firsts (pairs_of o)) k 0 < o.index.len
  row_below k h =
      let xs = indices_of o.index in
      let inside : k < length xs = omega (arith, count_now o o refl s) in
      let at : get_or (firsts (pairs_of o)) k 0 ≡ get_or xs k 0 - o.index.offset = ap (λ (ns : List ℕ). get_or ns k 0) (sym firsts_are) ∙ get_or-map (λ n. n - o.index.offset) xs k 0 0 inside in
      let above : 0 < length xs = s.index.some in
      omega (arith, at, below_last (o.index.offset + o.index.len) xs s.index.rising s.index.below k inside, above_first o.index.offset xs s.index.rising s.index.above k inside)

  pub place_fits : (k : ℕ) → k < length (pairs_of o) → k + 1 < 18446744073709551616
  place_fits k h =
      let xs = indices_of o.index in
      let inside : k < length xs = omega (arith, count_now o o refl s) in
      let short : o.index.offset + o.index.len < 18446744073709551616 = s.index.short in
      omega (arith, rise-le xs s.index.rising 0 k (omega arith) inside, below_last (o.index.offset + o.index.len) xs s.index.rising s.index.below k inside)

  pub row_fits : (k : ℕ) → k < length (pairs_of o) → get_or (firsts (pairs_of o)) k 0 + 1 < 18446744073709551616
  row_fits k h =
      let short : o.index.offset + o.index.len < 18446744073709551616 = s.index.short in
      omega (arith, row_below k h)

  pub row_rises : (k : ℕ) → k + 1 < length (pairs_of o) → get_or (firsts (pairs_of o)) k 0 < get_or (firsts (pairs_of o)) (k + 1) 0
  row_rises k h =
      let up = rising_rows o.index.offset (indices_of o.index) s.index.rising s.index.above k (k + 1) (omega arith) (omega (arith, long_rows, count_now o o refl s)) in
      omega (arith, up, ap (λ (ns : List ℕ). get_or ns k 0) firsts_are, ap (λ (ns : List ℕ). get_or ns (k + 1) 0) firsts_are)

  pub pair_is : (k : ℕ) → k < length (pairs_of o) → (row : ℕ) (v : Option Value) → row ≡ get_or (firsts (pairs_of o)) k 0 → v ≡ get_or o.values.rows k None →
      get_or (pairs_of o) k (row, v) ≡ (row, v)
  pair_is k h row v place value =
      let inside : k < length (rows_of o.index) = omega (arith, long_rows, count_now o o refl s) in
      get_or-zip (rows_of o.index) o.values.rows k (row, v) inside (value_inside k h)
      ∙ (λ i. (
        (get_or_default (rows_of o.index) k row 0 inside ∙ ap (λ (ns : List ℕ). get_or ns k 0) firsts_are ∙ sym place) i,
        (get_or_default o.values.rows k v None (value_inside k h) ∙ sym value) i,
      ))
