-- What a column of lanes over other rows needs to know of its rows, its slices and its chunks.
use Rattle.std.proofs.Common.{◌≡◌, ℕ, zero, suc, ◌+◌, ◌-◌, ◌<◌, ◌≤◌, inl, inr, List, length, get_or, [], ◌∷◌, refl, sym, ◌∙◌, ap, arith, Option, Some, None, Bool, true, false, cond, nat_lt}
use Rattle.std.specs.Option.{option_or, is_some}
use Rattle.std.specs.List.{slice_range}
use Rattle.std.proofs.lemmas.Bool.{cases_lt, false≢true}
use Rattle.std.proofs.lemmas.Bool.Decides.{nat_tests}
use Rattle.std.proofs.lemmas.List.{ext_get_or}
use Rattle.std.proofs.lemmas.List.Edits.{length-between, get_or-between}
use Rattle.std.proofs.lemmas.List.Folds.{list_all_at}
use Rattle.vx_rows.specs.declared.value.Value.{Value}
use Rattle.vx_lanes.specs.declared.layout.Layout.{Layout}
use Rattle.vx_lanes.specs.Layouts.{IsLayout, first_below, exception_of, exceptions, value_of, value_under, row_under, rows_under, overlaid, layout_part, layout_slice, layout_chunks, chunk_row}
use Rattle.vx_lanes.proofs.Slices.{size_within, slice_entries, slice_means, chunks_some, chunks_none}

pub under_length : (l : Layout) (n from : ℕ) (rows : List (Option Value)) → length (rows_under l n from rows) ≡ length rows
unfolding rows_under
under_length l n from [] = refl
under_length l n from (r ∷ rs) = ap suc (under_length l n (from + 1) rs)

pub under_at : (l : Layout) (n from : ℕ) (rows : List (Option Value)) (i : ℕ) → get_or (rows_under l n from rows) i None ≡ row_under l n (from + i) (get_or rows i None)
unfolding rows_under row_under
under_at l n from [] i = refl
under_at l n from (r ∷ rs) zero =
    let here : from ≡ from + 0 = omega arith in
    ap (λ p. row_under l n p r) here
under_at l n from (r ∷ rs) (suc i) =
    let next : from + 1 + i ≡ from + suc i = omega arith in
    under_at l n (from + 1) rs i ∙ ap (λ p. row_under l n p (get_or rs i None)) next

-- exceptions leave the number of rows
pub overlaid_length : (l : Layout) (rows : List (Option Value)) → length (overlaid l rows) ≡ length rows
overlaid_length l rows = under_length l (exceptions l) 0 rows

-- each row under its exception, also past the end, where both are null
pub overlaid_row : (l : Layout) (rows : List (Option Value)) (i : ℕ) → get_or (overlaid l rows) i None ≡ row_under l (exceptions l) i (get_or rows i None)
overlaid_row l rows i =
    let here : 0 + i ≡ i = omega arith in
    under_at l (exceptions l) 0 rows i ∙ ap (λ p. row_under l (exceptions l) p (get_or rows i None)) here

under_null : (l : Layout) (n row : ℕ) (o : Option Value) → o ≡ None → row_under l n row o ≡ None
unfolding row_under
under_null l n row o e = ap (row_under l n row) e

under_value : (l : Layout) (row : ℕ) (o : Option Value) (v : Value) (k : Option ℕ) → o ≡ Some v → exception_of l row ≡ k → row_under l (exceptions l) row o ≡ value_under l k v
unfolding row_under
under_value l row o v k e f = ap (row_under l (exceptions l) row) e ∙ ap (λ p. value_under l p v) f

-- null stays null
pub overlaid_nothing : (l : Layout) (rows : List (Option Value)) (i : ℕ) → get_or rows i None ≡ None → get_or (overlaid l rows) i None ≡ None
overlaid_nothing l rows i e = overlaid_row l rows i ∙ under_null l (exceptions l) i (get_or rows i None) e

-- a value with no exception stays
pub overlaid_kept : (l : Layout) (rows : List (Option Value)) (i : ℕ) (v : Value) → get_or rows i None ≡ Some v → exception_of l i ≡ None → get_or (overlaid l rows) i None ≡ Some v
overlaid_kept l rows i v e f = overlaid_row l rows i ∙ under_value l i (get_or rows i None) v None e f

-- a value with an exception becomes the exception's
pub overlaid_replaced : (l : Layout) (rows : List (Option Value)) (i : ℕ) (v : Value) (k : ℕ) → get_or rows i None ≡ Some v → exception_of l i ≡ Some k → get_or (overlaid l rows) i None ≡ value_of l k
overlaid_replaced l rows i v k e f = overlaid_row l rows i ∙ under_value l i (get_or rows i None) v (Some k) e f

first_inside : (test : ℕ → Bool) (n k : ℕ) → first_below test n ≡ Some k → k < n
unfolding first_below
first_inside test zero k e = absurd cc
first_inside test (suc n) k e = by_cases (first_below test n) (test n) e (first_inside test n k)
  where
    by_cases : (o : Option ℕ) (b : Bool) → option_or o (cond b (Some n) None) ≡ Some k → (o ≡ Some k → k < n) → k < suc n
    by_cases (Some m) b f below = omega (arith, below f)
    by_cases None true f below =
        let same : n ≡ k = cc in
        omega arith
    by_cases None false f below = absurd cc

-- a row's exception is one of the layout's
pub exception_inside : (l : Layout) (row k : ℕ) → exception_of l row ≡ Some k → k < exceptions l
exception_inside l row k e = first_inside _ (exceptions l) k e

-- each exception's value is a value
pub exception_value : (l : Layout) (k : ℕ) → IsLayout l → k < exceptions l → is_some (value_of l k) ≡ true
exception_value l k s h = by_cases (is_some (value_of l k)) refl
  where
    by_cases : (b : Bool) → is_some (value_of l k) ≡ b → b ≡ true
    by_cases true e = refl
    by_cases false e = absurd (false≢true (sym (list_all_at is_some l.patch_values.rows k None (omega (arith, s.paired)) e) ∙ s.valid))

-- exceptions neither add nor take values
pub overlaid_some : (l : Layout) (rows : List (Option Value)) (i : ℕ) → IsLayout l → is_some (get_or (overlaid l rows) i None) ≡ is_some (get_or rows i None)
overlaid_some l rows i s = by_cases (get_or rows i None) (exception_of l i) refl refl
  where
    by_cases : (o : Option Value) (p : Option ℕ) → get_or rows i None ≡ o → exception_of l i ≡ p → is_some (get_or (overlaid l rows) i None) ≡ is_some (get_or rows i None)
    by_cases None p e f = ap is_some (overlaid_nothing l rows i e) ∙ sym (ap is_some e)
    by_cases (Some v) None e f = ap is_some (overlaid_kept l rows i v e f) ∙ sym (ap is_some e)
    by_cases (Some v) (Some k) e f =
        ap is_some (overlaid_replaced l rows i v k e f) ∙ exception_value l k s (exception_inside l i k f) ∙ sym (ap is_some e)

-- a slice has as many lanes, and the same exceptions with the same values
pub slice_lanes : (l : Layout) (start end : ℕ) → (layout_slice l start end).n_lanes ≡ l.n_lanes
unfolding layout_part
slice_lanes l start end = refl

pub slice_len : (l : Layout) (start end : ℕ) → (layout_slice l start end).len ≡ end - start
unfolding layout_part
slice_len l start end = refl

pub slice_exceptions : (l : Layout) (start end : ℕ) → exceptions (layout_slice l start end) ≡ exceptions l
unfolding layout_part
slice_exceptions l start end = refl

pub slice_value : (l : Layout) (start end k : ℕ) → value_of (layout_slice l start end) k ≡ value_of l k
unfolding layout_part
slice_value l start end k = refl

-- a slice has no more lane offsets
pub slice_offsets : (l : Layout) (start end : ℕ) → IsLayout l → start ≤ end → end ≤ l.len → length (layout_slice l start end).lane_offsets.rows ≤ length l.lane_offsets.rows
slice_offsets l start end s o w = omega (arith, s.offsets, slice_entries l start end s o w, size_within l start end s o w)

under_slice : (l : Layout) (start end row : ℕ) (o : Option Value) → exception_of (layout_slice l start end) row ≡ exception_of l (start + row) →
    row_under (layout_slice l start end) (exceptions (layout_slice l start end)) row o ≡ row_under l (exceptions l) (start + row) o
unfolding row_under layout_part
under_slice l start end row None e = refl
under_slice l start end row (Some v) e = ap (λ p. value_under l p v) e

-- what is laid over a slice of the rows is the slice of what is laid over them
pub overlaid_slice : (l : Layout) (rows : List (Option Value)) (start end : ℕ) → IsLayout l → length rows ≡ l.len → start ≤ end → end ≤ length rows →
    overlaid (layout_slice l start end) (slice_range rows start end) ≡ slice_range (overlaid l rows) start end
overlaid_slice l rows start end s m o w =
    let part : Layout = layout_slice l start end in
    let short : length (slice_range rows start end) ≡ end - start = length-between rows start end w in
    let all : length (overlaid l rows) ≡ length rows = overlaid_length l rows in
    let long : length (slice_range (overlaid l rows) start end) ≡ end - start = length-between (overlaid l rows) start end (omega arith) in
    let laid' : length (overlaid part (slice_range rows start end)) ≡ length (slice_range rows start end) = overlaid_length part (slice_range rows start end) in
    ext_get_or None (overlaid part (slice_range rows start end)) (slice_range (overlaid l rows) start end) (omega arith) (λ i h.
    let inside : i < end - start = omega arith in
    let there : start + i < end = omega arith in
    overlaid_row part (slice_range rows start end) i
    ∙ under_slice l start end i (get_or (slice_range rows start end) i None) (slice_means l start end i s o (omega arith) inside)
    ∙ ap (row_under l (exceptions l) (start + i)) (get_or-between rows start end i None there)
    ∙ sym (overlaid_row l rows (start + i))
    ∙ sym (get_or-between (overlaid l rows) start end i None there))

-- the rows that chunks cover, from the first and to below the last; none where there is no chunk
abbrev pub chunks_from : Layout → ℕ → ℕ → ℕ
chunks_from l start end = cond (nat_lt start end) (chunk_row l start) 0

abbrev pub chunks_to : Layout → ℕ → ℕ → ℕ
chunks_to l start end = cond (nat_lt start end) (chunk_row l end) 0

rows_rise : (l : Layout) (start end : ℕ) → start ≤ end → chunk_row l start ≤ chunk_row l end
rows_rise l start end o = omega arith

rows_inside : (l : Layout) (chunk : ℕ) → chunk_row l chunk ≤ l.len
rows_inside l chunk = omega arith

-- both ends where there is some chunk, and where there is none
from_some : (l : Layout) (start end : ℕ) → start < end → chunks_from l start end ≡ chunk_row l start
from_some l start end h =
    let test : nat_lt start end ≡ true = grind (arith, nat_tests) in
    ap (λ b. cond b (chunk_row l start) 0) test

to_some : (l : Layout) (start end : ℕ) → start < end → chunks_to l start end ≡ chunk_row l end
to_some l start end h =
    let test : nat_lt start end ≡ true = grind (arith, nat_tests) in
    ap (λ b. cond b (chunk_row l end) 0) test

from_none : (l : Layout) (start end : ℕ) → start ≡ end → chunks_from l start end ≡ 0
from_none l start end h =
    let test : nat_lt start end ≡ false = grind (arith, nat_tests) in
    ap (λ b. cond b (chunk_row l start) 0) test

to_none : (l : Layout) (start end : ℕ) → start ≡ end → chunks_to l start end ≡ 0
to_none l start end h =
    let test : nat_lt start end ≡ false = grind (arith, nat_tests) in
    ap (λ b. cond b (chunk_row l end) 0) test

-- those rows are a range of the layout's
pub chunks_ordered : (l : Layout) (start end : ℕ) → start ≤ end → chunks_from l start end ≤ chunks_to l start end
chunks_ordered l start end o = elim (cases_lt start end) as (λ _. chunks_from l start end ≤ chunks_to l start end) [
  | inl some ↦ omega (arith, from_some l start end some, to_some l start end some, rows_rise l start end o)
  | inr none ↦ let same : start ≡ end = omega arith in omega (arith, from_none l start end same, to_none l start end same)
]

pub chunks_inside : (l : Layout) (start end : ℕ) → start ≤ end → chunks_to l start end ≤ l.len
chunks_inside l start end o = elim (cases_lt start end) as (λ _. chunks_to l start end ≤ l.len) [
  | inl some ↦ omega (arith, to_some l start end some, rows_inside l end)
  | inr none ↦ let same : start ≡ end = omega arith in omega (arith, to_none l start end same)
]

none_lanes : (l : Layout) → (layout_part l 0 0 0 1).n_lanes ≡ l.n_lanes
unfolding layout_part
none_lanes l = refl

none_len : (l : Layout) → (layout_part l 0 0 0 1).len ≡ 0
unfolding layout_part
none_len l = refl

none_exceptions : (l : Layout) → exceptions (layout_part l 0 0 0 1) ≡ exceptions l
unfolding layout_part
none_exceptions l = refl

none_value : (l : Layout) (k : ℕ) → value_of (layout_part l 0 0 0 1) k ≡ value_of l k
unfolding layout_part
none_value l k = refl

none_offsets : (l : Layout) → IsLayout l → length (layout_part l 0 0 0 1).lane_offsets.rows ≤ length l.lane_offsets.rows
unfolding layout_part
none_offsets l s = omega (arith, length-between l.lane_offsets.rows 0 1 (omega (arith, s.offsets)), s.offsets)

-- a fact on the layout of chunks, by a fact on slices and one on the layout of no row
of_chunks : (P : Layout → Type 0) (l : Layout) (start end : ℕ) → start ≤ end → (start < end → P (layout_slice l (chunk_row l start) (chunk_row l end))) → (start ≡ end → P (layout_part l 0 0 0 1)) → P (layout_chunks l start end)
of_chunks P l start end o some none = elim (cases_lt start end) as (λ _. P (layout_chunks l start end)) [
  | inl less ↦ rw (chunks_some l start end less) (some less)
  | inr more ↦ let same : start ≡ end = omega arith in rw (chunks_none l start end same) (none same)
]

-- chunks have as many lanes, and the same exceptions with the same values
pub chunks_lanes : (l : Layout) (start end : ℕ) → start ≤ end → (layout_chunks l start end).n_lanes ≡ l.n_lanes
chunks_lanes l start end o =
    of_chunks (λ (m : Layout). m.n_lanes ≡ l.n_lanes) l start end o (λ _. slice_lanes l (chunk_row l start) (chunk_row l end)) (λ _. none_lanes l)

pub chunks_exceptions : (l : Layout) (start end : ℕ) → start ≤ end → exceptions (layout_chunks l start end) ≡ exceptions l
chunks_exceptions l start end o =
    of_chunks (λ (m : Layout). exceptions m ≡ exceptions l) l start end o (λ _. slice_exceptions l (chunk_row l start) (chunk_row l end)) (λ _. none_exceptions l)

pub chunks_value : (l : Layout) (start end k : ℕ) → start ≤ end → value_of (layout_chunks l start end) k ≡ value_of l k
chunks_value l start end k o =
    of_chunks (λ (m : Layout). value_of m k ≡ value_of l k) l start end o (λ _. slice_value l (chunk_row l start) (chunk_row l end) k) (λ _. none_value l k)

-- chunks have no more lane offsets
pub chunks_offsets : (l : Layout) (start end : ℕ) → IsLayout l → start ≤ end → length (layout_chunks l start end).lane_offsets.rows ≤ length l.lane_offsets.rows
chunks_offsets l start end s o =
    of_chunks (λ (m : Layout). length m.lane_offsets.rows ≤ length l.lane_offsets.rows) l start end o
    (λ _. slice_offsets l (chunk_row l start) (chunk_row l end) s (rows_rise l start end o) (rows_inside l end)) (λ _. none_offsets l s)

-- chunks have the rows that they cover
pub chunks_len : (l : Layout) (start end : ℕ) → start ≤ end → (layout_chunks l start end).len ≡ chunks_to l start end - chunks_from l start end
chunks_len l start end o =
    of_chunks (λ (m : Layout). m.len ≡ chunks_to l start end - chunks_from l start end) l start end o
    (λ some. let from = from_some l start end some in let to = to_some l start end some in omega (arith, from, to, slice_len l (chunk_row l start) (chunk_row l end)))
    (λ none. let from = from_none l start end none in let to = to_none l start end none in omega (arith, from, to, none_len l))

-- a row of chunks has the exception of its row in all
pub chunks_exception : (l : Layout) (start end row : ℕ) → IsLayout l → start ≤ end → row < chunks_to l start end - chunks_from l start end → exception_of (layout_chunks l start end) row ≡ exception_of l (chunks_from l start end + row)
chunks_exception l start end row s o w =
    of_chunks (λ (part : Layout). exception_of part row ≡ exception_of l (chunks_from l start end + row)) l start end o
    (λ some. let from = from_some l start end some in let to = to_some l start end some in rw from (slice_means l (chunk_row l start) (chunk_row l end) row s (rows_rise l start end o) (rows_inside l end) (omega arith)))
    (λ none. let from = from_none l start end none in let to = to_none l start end none in absurd (omega arith))

overlaid_none : (l : Layout) → overlaid l [] ≡ []
unfolding rows_under
overlaid_none l = refl

-- what is laid over the rows of chunks is the range of what is laid over all
pub overlaid_chunks : (l : Layout) (rows : List (Option Value)) (start end from to : ℕ) → IsLayout l → length rows ≡ l.len → start ≤ end → from ≡ chunks_from l start end → to ≡ chunks_to l start end →
    overlaid (layout_chunks l start end) (slice_range rows from to) ≡ slice_range (overlaid l rows) from to
overlaid_chunks l rows start end from to s m o ef et =
    of_chunks (λ (part : Layout). overlaid part (slice_range rows from to) ≡ slice_range (overlaid l rows) from to) l start end o
    (λ some. rw (ef ∙ from_some l start end some, et ∙ to_some l start end some) (overlaid_slice l rows (chunk_row l start) (chunk_row l end) s m (rows_rise l start end o) (omega (arith, rows_inside l end))))
    (λ none. rw (ef ∙ from_none l start end none, et ∙ to_none l start end none) (overlaid_none (layout_part l 0 0 0 1)))
