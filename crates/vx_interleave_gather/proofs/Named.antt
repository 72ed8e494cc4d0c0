-- The rows that selectors name, one after the other.
use Rattle.std.proofs.Common.{ℕ, ◌≡◌, ◌<◌, ◌+◌, ◌∙◌, ap, sym, refl, arith, List, [], ◌∷◌, ◌++◌, length, get_or, slice_index, take, map, Option, None}
use Rattle.std.specs.Option.{is_some}
use Rattle.std.specs.List.{zip}
use Rattle.std.proofs.lemmas.List.{take_more, take_all, map-append, get_or-map}
use Rattle.std.proofs.lemmas.Slice.Zip.{get_or-zip}
use Rattle.vx_rows.specs.declared.value.Value.{Value}
use Rattle.vx_base.specs.Column.{Flat}
use Rattle.vx_base.proofs.CheckLemmas.{length_numbers}
use Rattle.vx_interleave.specs.Selections.{Selection, IsSelection, arrays_of, rows_of, pairs_of, len_of, array_of, row_of}
use Rattle.vx_interleave.proofs.Columns.{length_pairs}
use Rattle.vx_interleave_gather.specs.Gathered.{lens_of, lists_of, named}

-- the pair of a row
pub pair_of : (s : Selection) (i : ℕ) → IsSelection s → i < len_of s → get_or (pairs_of s) i (0, 0) ≡ (array_of s i, row_of s i)
pair_of s i k h =
    let a : i < length (arrays_of s) = omega (arith, length_numbers s.array_indices.rows) in
    let b : i < length (rows_of s) = omega (arith, length_numbers s.row_indices.rows, k.paired) in
    get_or-zip (arrays_of s) (rows_of s) i (0, 0) a b

-- a row that is named is a row of a column
pub named_at : (values : List Flat) (d : Flat) (k i : ℕ) → k < length values → named (lists_of values) (k, i) ≡ get_or (get_or values k d).rows i None
named_at values d k i h = ap (λ (rs : List (Option Value)). get_or rs i None) (get_or-map (λ (c : Flat). c.rows) values k d [] h)

pub len_at : (values : List Flat) (d : Flat) (k : ℕ) → k < length values → slice_index (lens_of values) k ≡ length (get_or values k d).rows
len_at values d k h = get_or-map (λ (c : Flat). length c.rows) values k d 0 h

-- the rows of one pair more
pub named_more : (lists : List (List (Option Value))) (s : Selection) (i : ℕ) → IsSelection s → i < len_of s →
    map (named lists) (take (i + 1) (pairs_of s)) ≡ map (named lists) (take i (pairs_of s)) ++ named lists (array_of s i, row_of s i) ∷ []
named_more lists s i k h =
    ap (map (named lists)) (take_more (pairs_of s) i (0, 0) (omega (arith, length_pairs s k)))
    ∙ map-append (named lists) (take i (pairs_of s)) (get_or (pairs_of s) i (0, 0) ∷ [])
    ∙ ap (λ (p : ℕ × ℕ). map (named lists) (take i (pairs_of s)) ++ named lists p ∷ []) (pair_of s i k h)

pub named_all : (lists : List (List (Option Value))) (s : Selection) (i : ℕ) → IsSelection s → i ≡ len_of s → map (named lists) (take i (pairs_of s)) ≡ map (named lists) (pairs_of s)
named_all lists s i k e = ap (map (named lists)) (take_all i (pairs_of s) (omega (arith, length_pairs s k)))

-- whether they are there
pub valid_more : (lists : List (List (Option Value))) (s : Selection) (i : ℕ) → IsSelection s → i < len_of s →
    map is_some (map (named lists) (take (i + 1) (pairs_of s))) ≡ map is_some (map (named lists) (take i (pairs_of s))) ++ is_some (named lists (array_of s i, row_of s i)) ∷ []
valid_more lists s i k h =
    ap (map is_some) (named_more lists s i k h) ∙ map-append is_some (map (named lists) (take i (pairs_of s))) (named lists (array_of s i, row_of s i) ∷ [])

-- the lengths of one column more
pub lens_more : (values : List Flat) (i : ℕ) (value : Flat) (n : ℕ) (old new : List ℕ) → i < length values → value ≡ get_or values i value → old ≡ lens_of (take i values) → n ≡ length value.rows → new ≡ old ++ n ∷ [] → new ≡ lens_of (take (i + 1) values)
lens_more values i value n old new h e o m p =
    let size : Flat → ℕ = λ (v : Flat). length v.rows in
    p ∙ (λ j. o j ++ m j ∷ []) ∙ sym (ap lens_of (take_more values i value h) ∙ map-append size (take i values) (get_or values i value ∷ []) ∙ ap (λ (v : Flat). lens_of (take i values) ++ size v ∷ []) (sym e))
