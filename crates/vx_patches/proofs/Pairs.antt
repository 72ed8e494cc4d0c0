-- The pairs of a slice, and the value of a row.
use Rattle.std.proofs.Common.{◌≡◌, ℕ, zero, suc, ◌+◌, ◌-◌, ◌≤◌, List, [], ◌∷◌, take, drop, length, map, refl, sym, ◌∙◌, ap, subst}
use Rattle.std.specs.List.{filter, zip, slice_range}
use Rattle.std.proofs.lemmas.List.{length-map}
use Rattle.std.proofs.lemmas.Slice.Zip.{firsts-zip}
use Rattle.vx_base.specs.Checks.{count_below}
use Rattle.vx_patches.specs.Places.{Index, IsIndex, indices_of, rows_of}
use Rattle.vx_patches.specs.Slices.{IsSliceOf, lies_inside, place_of}
use Rattle.vx_patches.specs.Pairs.{pairs_by, pairs_inside}
use Rattle.vx_patches.proofs.Counts.{Rising}
use Rattle.vx_patches.proofs.Insides.{filter_rising}
use Rattle.vx_patches.proofs.Slices.{rows_twice, rising_rows, slice_map, slice_numbers}

zip_nil : {A B : Type 0} (xs : List A) → [] ≡ zip {X = B} xs []
zip_nil [] = refl
zip_nil (x ∷ xs) = refl

take-zip : {A B : Type 0} (n : ℕ) (xs : List A) (ys : List B) → take n (zip xs ys) ≡ zip (take n xs) (take n ys)
take-zip zero xs ys = refl
take-zip (suc n) [] ys = refl
take-zip (suc n) (x ∷ xs) [] = refl
take-zip (suc n) (x ∷ xs) (y ∷ ys) = ap (λ ps. (x, y) ∷ ps) (take-zip n xs ys)

drop-zip : {A B : Type 0} (n : ℕ) (xs : List A) (ys : List B) → drop n (zip xs ys) ≡ zip (drop n xs) (drop n ys)
drop-zip zero xs ys = refl
drop-zip (suc n) [] ys = refl
drop-zip (suc n) (x ∷ xs) [] = zip_nil (drop n xs)
drop-zip (suc n) (x ∷ xs) (y ∷ ys) = drop-zip n xs ys

less_zip : {A : Type 0} (s : ℕ) (ns : List ℕ) (ys : List A) → zip (map (λ n. n - s) ns) ys ≡ map (λ (p : ℕ × A). (p.0 - s, p.1)) (zip ns ys)
less_zip s [] ys = refl
less_zip s (n ∷ ns) [] = refl
less_zip s (n ∷ ns) (y ∷ ys) = ap (λ ps. (n - s, y) ∷ ps) (less_zip s ns ys)

slice-zip : {A B : Type 0} (xs : List A) (ys : List B) (p q : ℕ) → slice_range (zip xs ys) p q ≡ zip (slice_range xs p q) (slice_range ys p q)
slice-zip xs ys p q = ap (take (q - p)) (drop-zip p xs ys) ∙ take-zip (q - p) (drop p xs) (drop p ys)

-- the pairs inside stand together
chosen : {A : Type 0} (index : Index) → IsIndex index → (s e p q : ℕ) → s ≤ e → p ≡ place_of s (rows_of index) → q ≡ place_of e (rows_of index) → (values : List A) → length values ≡ length (indices_of index) →
    filter (λ (r : ℕ × A). lies_inside s e r.0) (pairs_by index values) ≡ slice_range (pairs_by index values) p q
chosen {A} index i s e p q h from to values long =
    let f = λ (n : ℕ). n - index.offset in
    let xs = indices_of index in
    let all = zip (map f xs) values in
    let keys : map (λ (r : ℕ × A). r.0) all ≡ map f xs = firsts-zip (map f xs) values (long ∙ sym (length-map xs f)) in
    let rising : Rising (map (λ (r : ℕ × A). r.0) all) = subst Rising (sym keys) (rising_rows index.offset xs i.rising i.above) in
    filter_rising (λ (r : ℕ × A). r.0) s e h all rising ∙ ap (λ (ns : List ℕ). slice_range all (count_below s ns) (count_below e ns)) keys
    ∙ sym (ap (λ (a : ℕ). slice_range all a q) from ∙ ap (slice_range all (count_below s (map f xs))) to)

-- the pairs of a slice are the pairs inside, less start
pub pairs_kept : {A : Type 0} (index part : Index) (s e p q : ℕ) → IsIndex index → IsSliceOf index part s e p q → s ≤ e → (values : List A) → length values ≡ length (indices_of index) →
    pairs_by part (slice_range values p q) ≡ pairs_inside s e (pairs_by index values)
pairs_kept {A} index part s e p q i sl h values long =
    let f = λ (n : ℕ). n - index.offset in
    let xs = indices_of index in
    let rows : rows_of part ≡ map (λ n. n - s) (slice_range (map f xs) p q) =
    ap rows_of sl.is ∙ ap (map (λ n. n - (index.offset + s))) (slice_numbers index.indices.rows p q) ∙ rows_twice index.offset s (slice_range xs p q)
    ∙ ap (map (λ n. n - s)) (slice_map f xs p q) in
    ap (λ (ns : List ℕ). zip ns (slice_range values p q)) rows ∙ less_zip s (slice_range (map f xs) p q) (slice_range values p q)
    ∙ ap (map (λ (r : ℕ × A). (r.0 - s, r.1))) (sym (chosen index i s e p q h sl.from sl.to values long ∙ slice-zip (map f xs) values p q))
