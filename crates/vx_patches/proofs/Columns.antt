-- What a column of exceptions needs of their places: the values of rows, slices, and what searches cost.
use Rattle.std.proofs.Common.{◌≡◌, ℕ, ◌+◌, ◌-◌, ◌≤◌, ◌<◌, inl, inr, cond, nat_eq, Bool, true, false, List, [], ◌∷◌, length, get_or, refl, sym, ◌∙◌, ap, arith}
use Rattle.std.specs.Prelude.{Option, Some, None}
use Rattle.std.specs.List.{slice_range}
use Rattle.std.specs.List.Sorted.{IsStrictlyIncreasing}
use Rattle.std.proofs.lemmas.Bool.{cases_Bool, cases_lt}
use Rattle.std.proofs.lemmas.Bool.Decides.{nat_tests}
use Rattle.std.proofs.lemmas.List.{length-map}
use Rattle.std.proofs.lemmas.Slice.Zip.{firsts-zip}
use Rattle.vx_base.specs.Column.{Flat}
use Rattle.vx_base.specs.Checks.{count_below}
use Rattle.vx_search.proofs.Powers.{search_bound-le}
use Rattle.vx_search.specs.declared.result.SearchResult.TheVariants.{Found, NotFound}
use Rattle.vx_patches.specs.Places.{Index, IsIndex, indices_of, rows_of}
use Rattle.vx_patches.specs.Search.{place_among, offset_reads, comparisons, search_cost}
use Rattle.vx_patches.specs.Slices.{IsSliceOf, lies_inside, rows_inside, offsets_after, front_reads, cut_cost}
use Rattle.vx_patches.specs.Pairs.{pairs_by, pairs_inside, firsts, value_at}
use Rattle.vx_patches.proofs.Counts.{Rising, Rising-from_increasing, count-le, count-le-length, length-slice}
use Rattle.vx_patches.proofs.Insides.{pairs_yes, pairs_no}
use Rattle.vx_patches.proofs.Searches.{stands_at, stands_nowhere}
use Rattle.vx_patches.proofs.Slices.{rising_rows, slice_numbers, place_count, place_of_start, place_of_end}
use Rattle.vx_patches.proofs.Chains.{kept_some}
use Rattle.vx_patches.proofs.Pairs.{pairs_kept}
use Rattle.vx_patches.proofs.Overlays.{firsts_inside, no_pairs, value_found, value_missing}

-- ---- the value of a row

inside_same : (start end n row : ℕ) → row < end - start → lies_inside start end n ≡ true → nat_eq (n - start) row ≡ nat_eq n (start + row)
inside_same start end n row h e = grind (arith, nat_tests)

outside_apart : (start end n row : ℕ) → row < end - start → lies_inside start end n ≡ false → nat_eq n (start + row) ≡ false
outside_apart start end n row h e = grind (arith, nat_tests)

-- a row of the pairs inside has the value of its row in the whole
pub value_inside : {A : Type 0} (start end row : ℕ) (pairs : List (ℕ × A)) → row < end - start → value_at row (pairs_inside start end pairs) ≡ value_at (start + row) pairs
value_inside start end row [] h = refl
value_inside {A} start end row (p ∷ ps) h =
    let rest = value_inside start end row ps h in
    elim (cases_Bool (lies_inside start end p.0)) as (λ _. value_at row (pairs_inside start end (p ∷ ps)) ≡ value_at (start + row) (p ∷ ps)) [
      | inl is_in ↦
          ap (value_at row) (pairs_yes start end p ps is_in) ∙ ap (λ (b : Bool). cond b (Some p.1) (value_at row (pairs_inside start end ps))) (inside_same start end p.0 row h is_in)
          ∙ ap (λ (o : Option A). cond (nat_eq p.0 (start + row)) (Some p.1) o) rest
      | inr is_out ↦
          ap (value_at row) (pairs_no start end p ps is_out) ∙ rest
          ∙ sym (ap (λ (b : Bool). cond b (Some p.1) (value_at (start + row) ps)) (outside_apart start end p.0 row h is_out))
    ]

-- there is a row for each index
pub rows_number : (index : Index) → length (rows_of index) ≡ length (indices_of index)
rows_number index = length-map (indices_of index) (λ (n : ℕ). n - index.offset)

-- the rows rise
pub rows_rise : (index : Index) → IsIndex index → Rising (rows_of index)
rows_rise index i = rising_rows index.offset (indices_of index) i.rising i.above

rows_increase : (index : Index) → IsIndex index → IsStrictlyIncreasing (rows_of index)
rows_increase index i = λ k h. rows_rise index i k (k + 1) (omega arith) h

-- the row at a place has the value at that place
pub value_of_place : {A : Type 0} (index : Index) → IsIndex index → (values : List A) → length values ≡ length (indices_of index) → (k : ℕ) (d : A) → k < length (indices_of index) →
    value_at (get_or (rows_of index) k 0) (pairs_by index values) ≡ Some (get_or values k d)
value_of_place {A} index i values long k d h =
    let rows = rows_of index in
    value_found rows values (get_or rows k 0) k d (long ∙ sym (rows_number index)) (λ j l. omega (arith, rows_rise index i j k l (omega (arith, rows_number index)))) (omega (arith, rows_number index)) refl

-- a row that is found has the value at its place
pub value_of_found : {A : Type 0} (index : Index) → IsIndex index → (values : List A) → length values ≡ length (indices_of index) → (row k : ℕ) (d : A) → place_among (rows_of index) row ≡ Found k →
    (k < length (indices_of index)) × (value_at row (pairs_by index values) ≡ Some (get_or values k d))
value_of_found {A} index i values long row k d e =
    let rows = rows_of index in
    let at : (k < length rows) × (get_or rows k 0 ≡ row) = stands_at row rows (rows_increase index i) k (sym e) in (
      omega (arith, at.0, rows_number index),
      value_found rows values row k d (long ∙ sym (rows_number index)) (λ j l. omega (arith, rows_rise index i j k l at.0, at.1)) at.0 at.1,
    )

-- a row that isn't found has none
pub value_of_missing : {A : Type 0} (index : Index) (values : List A) (row p : ℕ) → place_among (rows_of index) row ≡ NotFound p → value_at row (pairs_by index values) ≡ None
value_of_missing index values row p e = value_missing (rows_of index) values row (stands_nowhere row (rows_of index) p (sym e))

-- ---- the pairs of a slice

-- where no row is inside, no pair is
pub none_inside_pairs : {A : Type 0} (index : Index) (values : List A) (start end : ℕ) → length values ≡ length (indices_of index) → rows_inside start end (rows_of index) ≡ [] →
    pairs_inside start end (pairs_by index values) ≡ []
none_inside_pairs {A} index values start end long h =
    let rows : firsts (pairs_by index values) ≡ rows_of index = firsts-zip (rows_of index) values (long ∙ sym (rows_number index)) in
    no_pairs (pairs_inside start end (pairs_by index values)) (firsts_inside start end (pairs_by index values) ∙ ap (rows_inside start end) rows ∙ h)

-- a slice with exceptions left has rows
pub slice_rows : (index part : Index) (start end first last : ℕ) → IsIndex index → IsSliceOf index part start end first last → start < end
slice_rows index part start end first last i sl =
    let xs = indices_of index in
    let low : count_below (index.offset + start) xs ≡ first = place_count index i start first sl.from in
    let high : count_below (index.offset + end) xs ≡ last = place_count index i end last sl.to in
    let some : first < last = kept_some index part start end first last sl in
    elim (cases_lt start end) as (λ _. start < end) [
      | inl before ↦ before
      | inr after ↦ absurd (omega (arith, low, high, some, count-le (index.offset + end) (index.offset + start) xs (Rising-from_increasing xs i.rising) (omega arith)))
    ]

-- the places of a slice are in order, and within the number of indices
pub slice_places : (index part : Index) (start end first last : ℕ) → IsIndex index → IsSliceOf index part start end first last → (first < last) × (last ≤ length (indices_of index))
slice_places index part start end first last i sl = (
  kept_some index part start end first last sl,
  omega (arith, place_count index i end last sl.to, count-le-length (index.offset + end) (indices_of index)),
)

-- the pairs of a slice, with its values, are the pairs inside
pub slice_pairs : {A : Type 0} (index part : Index) (start end first last : ℕ) → IsIndex index → IsSliceOf index part start end first last → (values : List A) → length values ≡ length (indices_of index) →
    pairs_by part (slice_range values first last) ≡ pairs_inside start end (pairs_by index values)
slice_pairs {A} index part start end first last i sl values long =
    let some : start < end = slice_rows index part start end first last i sl in
    pairs_kept index part start end first last i sl (omega arith) values long

-- a slice has as many indices as its places
pub slice_number : (index part : Index) (start end first last : ℕ) → IsIndex index → IsSliceOf index part start end first last → length (indices_of part) ≡ last - first
slice_number index part start end first last i sl =
    let places = slice_places index part start end first last i sl in
    ap length (ap indices_of sl.is ∙ slice_numbers index.indices.rows first last) ∙ length-slice (indices_of index) first last places.1

-- a slice from the front on takes the places from the front on
pub slice_front : (index part : Index) (start end first last : ℕ) → IsIndex index → IsSliceOf index part start end first last → start ≡ 0 → first ≡ 0
slice_front index part start end first last i sl e = sl.from ∙ sym (place_of_start index i start e)

-- a slice up to the end takes the places up to the end
pub slice_back : (index part : Index) (start end first last : ℕ) → IsIndex index → IsSliceOf index part start end first last → end ≡ index.len → last ≡ length (indices_of index)
slice_back index part start end first last i sl e = sl.to ∙ sym (place_of_end index i end (length (indices_of index)) (omega arith) refl)

-- ---- what searches cost in a slice

fewer_reads : (o : Option Flat) (offset start end : ℕ) → (offset_reads (offsets_after o offset start end) ≡ offset_reads o) × (front_reads (offsets_after o offset start end) ≡ front_reads o)
fewer_reads None offset start end = (refl, refl)
fewer_reads (Some offsets) offset start end = (refl, refl)

fewer_comparisons : (o : Option Flat) (offset start end m n : ℕ) → m ≤ n → comparisons (offsets_after o offset start end) m ≤ comparisons o n
fewer_comparisons None offset start end m n h = search_bound-le m n h
fewer_comparisons (Some offsets) offset start end m n h = omega arith

-- a search in a slice costs no more than one in the whole, and so does a cut
pub slice_costs : (index part : Index) (start end first last : ℕ) → IsIndex index → IsSliceOf index part start end first last → (search_cost part ≤ search_cost index) × (cut_cost part ≤ cut_cost index)
slice_costs index part start end first last i sl =
    let o = index.chunk_offsets in
    let n = length (indices_of index) in
    let m = length (indices_of part) in
    let offsets : part.chunk_offsets ≡ offsets_after o index.offset start end = ap (λ (p : Index). p.chunk_offsets) sl.is in
    let reads = fewer_reads o index.offset start end in
    let few : m ≤ n = omega (arith, slice_number index part start end first last i sl, (slice_places index part start end first last i sl).1) in
    let less : comparisons part.chunk_offsets m ≤ comparisons o n = omega (arith, ap (λ (p : Option Flat). comparisons p m) offsets, fewer_comparisons o index.offset start end m n few) in
    let reading : offset_reads part.chunk_offsets ≡ offset_reads o = ap offset_reads offsets ∙ reads.0 in
    let cutting : front_reads part.chunk_offsets ≡ front_reads o = ap front_reads offsets ∙ reads.1 in
    (omega (arith, less, reading), omega (arith, less, reading, cutting))
