-- What a column over selectors may say of them.
use Rattle.std.proofs.Common.{◌≡◌, ℕ, zero, suc, ◌+◌, ◌-◌, ◌≤◌, ◌<◌, List, [], ◌∷◌, take, drop, length, min, slice_index, Option, Some, refl, sym, ◌∙◌, ap, arith}
use Rattle.std.specs.List.{zip, slice_range, slice_get}
use Rattle.std.proofs.Math.Seq.{take-length}
use Rattle.std.proofs.lemmas.List.{length-take, length-drop, take-map, drop-map, get_or-take, get_or-drop}
use Rattle.std.proofs.lemmas.Option.{slice_get-get_or}
use Rattle.std.proofs.lemmas.Slice.Zip.{length-zip, get_or-zip}
use Rattle.vx_rows.specs.declared.value.Value.{Value}
use Rattle.vx_base.specs.Column.{flat}
use Rattle.vx_base.specs.Numbers.{numbers_of, row_int, magnitude}
use Rattle.vx_base.proofs.CheckLemmas.{length_numbers}
use Rattle.vx_base.proofs.Windows.{range_range}
use Rattle.vx_interleave.specs.Selections.{Selection, selection, IsSelection, AreWithin, arrays_of, rows_of, pairs_of, len_of, array_of, row_of, window_of}

-- ---- lists

zip_nil : {A B : Type 0} (xs : List A) → [] ≡ zip {X = B} xs []
zip_nil [] = refl
zip_nil (x ∷ xs) = refl

take-zip : {A B : Type 0} (n : ℕ) (xs : List A) (ys : List B) → take n (zip xs ys) ≡ zip (take n xs) (take n ys)
take-zip zero xs ys = refl
take-zip (suc n) [] ys = refl
take-zip (suc n) (x ∷ xs) [] = refl
take-zip (suc n) (x ∷ xs) (y ∷ ys) = ap (λ ps. (x, y) ∷ ps) (take-zip n xs ys)

drop-zip : {A B : Type 0} (n : ℕ) (xs : List A) (ys : List B) → drop n (zip xs ys) ≡ zip (drop n xs) (drop n ys)
drop-zip zero xs ys = refl
drop-zip (suc n) [] ys = refl
drop-zip (suc n) (x ∷ xs) [] = zip_nil (drop n xs)
drop-zip (suc n) (x ∷ xs) (y ∷ ys) = drop-zip n xs ys

range_zip : {A B : Type 0} (xs : List A) (ys : List B) (p q : ℕ) → zip (slice_range xs p q) (slice_range ys p q) ≡ slice_range (zip xs ys) p q
range_zip xs ys p q = sym (ap (take (q - p)) (drop-zip p xs ys) ∙ take-zip (q - p) (drop p xs) (drop p ys))

range_numbers : (rs : List (Option Value)) (p q : ℕ) → numbers_of (slice_range rs p q) ≡ slice_range (numbers_of rs) p q
range_numbers rs p q =
    let f : Option Value → ℕ = λ r. magnitude (row_int r) in
    sym (ap (take (q - p)) (drop-map f p rs) ∙ take-map f (q - p) (drop p rs))

range_whole : {A : Type 0} (xs : List A) → slice_range xs 0 (length xs) ≡ xs
range_whole xs =
    let all : length xs - 0 ≡ length xs = omega arith in
    ap (λ n. take n xs) all ∙ take-length xs

length_range : {A : Type 0} (xs : List A) (p q : ℕ) → length (slice_range xs p q) ≡ min (q - p) (length xs - p)
length_range xs p q = length-take (q - p) (drop p xs) ∙ ap (min (q - p)) (length-drop p xs)

-- a place in a range is a place in the whole
place_inside : {A : Type 0} (xs : List A) (p q i : ℕ) → i < length (slice_range xs p q) → (i < q - p) × (p + i < length xs)
place_inside xs p q i h =
    let e = length_range xs p q in
    let a : i < q - p = omega (arith, e, h) in
    let b : p + i < length xs = omega (arith, e, h) in
    (a, b)

range_at : (xs : List ℕ) (p q i : ℕ) → i < q - p → slice_index (slice_range xs p q) i ≡ slice_index xs (p + i)
range_at xs p q i h = get_or-take (q - p) (drop p xs) i 0 h ∙ get_or-drop p xs i 0

-- ---- windows

-- the array numbers of a window
pub arrays_window : (s : Selection) (start end : ℕ) → arrays_of (window_of s start end) ≡ slice_range (arrays_of s) start end
unfolding window_of
arrays_window s start end = range_numbers s.array_indices.rows start end

-- and its row numbers
pub rows_window : (s : Selection) (start end : ℕ) → rows_of (window_of s start end) ≡ slice_range (rows_of s) start end
unfolding window_of
rows_window s start end = range_numbers s.row_indices.rows start end

-- the pairs of a window are a range of the pairs
pub pairs_window : (s : Selection) (start end : ℕ) → pairs_of (window_of s start end) ≡ slice_range (pairs_of s) start end
pairs_window s start end =
    ap (λ (xs : List ℕ). zip xs (rows_of (window_of s start end))) (arrays_window s start end) ∙ ap (zip (slice_range (arrays_of s) start end)) (rows_window s start end)
    ∙ range_zip (arrays_of s) (rows_of s) start end

-- how many rows a window selects
pub len_window : (s : Selection) (start end : ℕ) → start ≤ end → end ≤ len_of s → len_of (window_of s start end) ≡ end - start
unfolding window_of
len_window s start end h k = omega (arith, length_range s.array_indices.rows start end)

-- a window keeps what selectors keep
pub window_sound : (s : Selection) (start end : ℕ) → IsSelection s → IsSelection (window_of s start end)
unfolding window_of
window_sound s start end k = record {
  arrays = k.arrays;
  rows = k.rows;
  paired = length_range s.array_indices.rows start end ∙ ap (λ n. min (end - start) (n - start)) k.paired ∙ sym (length_range s.row_indices.rows start end);
}

-- a row of a window is a row of the whole
place_in_window : (s : Selection) (start end i : ℕ) → i < len_of (window_of s start end) → (start + i < len_of s) × (i < end - start)
unfolding window_of
place_in_window s start end i h =
    let p = place_inside s.array_indices.rows start end i h in
    (p.1, p.0)

-- the array number of a window's row
pub array_window : (s : Selection) (start end i : ℕ) → i < end - start → array_of (window_of s start end) i ≡ array_of s (start + i)
array_window s start end i h = ap (λ (xs : List ℕ). slice_index xs i) (arrays_window s start end) ∙ range_at (arrays_of s) start end i h

-- and its row number
pub row_window : (s : Selection) (start end i : ℕ) → i < end - start → row_of (window_of s start end) i ≡ row_of s (start + i)
row_window s start end i h = ap (λ (xs : List ℕ). slice_index xs i) (rows_window s start end) ∙ range_at (rows_of s) start end i h

-- a window stays within the lengths
pub window_within : (s : Selection) (lens : List ℕ) (start end : ℕ) → AreWithin s lens → AreWithin (window_of s start end) lens
window_within s lens start end w i h =
    let p = place_in_window s start end i h in
    let at = w (start + i) p.0 in
    rw (array_window s start end i p.1, row_window s start end i p.1) at

-- the window of all rows is the whole
pub window_whole : (s : Selection) → IsSelection s → window_of s 0 (len_of s) ≡ s
unfolding window_of
window_whole s k =
    let rows : slice_range s.row_indices.rows 0 (len_of s) ≡ s.row_indices.rows = ap (slice_range s.row_indices.rows 0) k.paired ∙ range_whole s.row_indices.rows in
    ap (λ (rs : List (Option Value)). selection (flat s.array_indices.dtype rs) (flat s.row_indices.dtype (slice_range s.row_indices.rows 0 (len_of s)))) (range_whole s.array_indices.rows)
    ∙ ap (λ (rs : List (Option Value)). selection s.array_indices (flat s.row_indices.dtype rs)) rows

-- a window of a window is one window
pub window_twice : (s : Selection) (start end i j : ℕ) → i ≤ j → j ≤ end - start → window_of (window_of s start end) i j ≡ window_of s (start + i) (start + j)
unfolding window_of
window_twice s start end i j h k =
    ap (λ (rs : List (Option Value)). selection (flat s.array_indices.dtype rs) (flat s.row_indices.dtype (slice_range (slice_range s.row_indices.rows start end) i j)))
    (range_range s.array_indices.rows start end i j h k)
    ∙ ap (λ (rs : List (Option Value)). selection (flat s.array_indices.dtype (slice_range s.array_indices.rows (start + i) (start + j))) (flat s.row_indices.dtype rs))
    (range_range s.row_indices.rows start end i j h k)

-- ---- pairs

-- there is a pair for each row
pub length_pairs : (s : Selection) → IsSelection s → length (pairs_of s) ≡ len_of s
length_pairs s k =
    let e = length-zip (arrays_of s) (rows_of s) in
    omega (arith, e, length_numbers s.array_indices.rows, length_numbers s.row_indices.rows, k.paired)

-- the two numbers of a row are its pair
pub pair_found : (s : Selection) (i : ℕ) → IsSelection s → i < len_of s → slice_get (pairs_of s) i ≡ Some (array_of s i, row_of s i)
pair_found s i k h =
    let a : i < length (arrays_of s) = omega (arith, length_numbers s.array_indices.rows) in
    let b : i < length (rows_of s) = omega (arith, length_numbers s.row_indices.rows, k.paired) in
    slice_get-get_or (pairs_of s) i (0, 0) (omega (arith, length_pairs s k)) ∙ ap Some (get_or-zip (arrays_of s) (rows_of s) i (0, 0) a b)

-- the array number of a row has a length
pub array_within : (s : Selection) (lens : List ℕ) (i : ℕ) → AreWithin s lens → i < len_of s → array_of s i < length lens
array_within s lens i w h = (w i h).0

-- the row number of a row is below that length
pub row_within : (s : Selection) (lens : List ℕ) (i : ℕ) → AreWithin s lens → i < len_of s → row_of s i < slice_index lens (array_of s i)
row_within s lens i w h = (w i h).1
