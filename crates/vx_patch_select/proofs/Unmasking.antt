-- What a mask leaves, as exceptions.
use Rattle.std.proofs.Common.{◌≡◌, ℕ, zero, suc, ◌+◌, ◌-◌, ◌*◌, ◌^◌, ◌≤◌, ◌<◌, Bool, true, false, not, cond, ◌&&◌, nat_le, nat_lt, List, [], ◌∷◌, length, get_or, map, All, refl, sym, ◌∙◌, ap, subst, arith}
use Rattle.std.specs.Prelude.{◌≢◌, Option, Some, None, Result, Ok, IsOkUnless}
use Rattle.std.specs.List.{zip, AllPairs}
use Rattle.std.specs.List.Sorted.{IsStrictlyIncreasing}
use Rattle.std.proofs.lemmas.Bool.{and_from}
use Rattle.std.proofs.lemmas.Bool.Decides.{nat_tests}
use Rattle.std.proofs.lemmas.List.{get_or-map, length-map}
use Rattle.std.proofs.lemmas.List.Sums.{sum_by-cons, count_by-le-length, length-filter}
use Rattle.std.proofs.lemmas.List.Elements.{All-filter, All-map, All-head, All-tail}
use Rattle.std.proofs.lemmas.List.Kept.{AllPairs-filter}
use Rattle.std.proofs.lemmas.Slice.Zip.{firsts-zip}
use Rattle.vx_rows.specs.declared.value.Value.{Value}
use Rattle.vx_rows.specs.declared.error.ColumnError.{ColumnError}
use Rattle.vx_rows.specs.declared.error.ColumnError.TheVariants.{OutOfMemory}
use Rattle.vx_base.specs.Column.{Flat, flat}
use Rattle.vx_base.specs.Numbers.{numbers_of, row_int, magnitude}
use Rattle.vx_base.specs.Checks.{strictly_increasing, all_within}
use Rattle.vx_base.proofs.CheckLemmas.{says-strictly_increasing, length_numbers}
use Rattle.vx_bulk.specs.Selections.{picked_at}
use Rattle.vx_bulk.specs.Types.{nullable}
use Rattle.vx_masks.specs.Bits.{count_true}
use Rattle.vx_patches.specs.Places.{Index, indices_of, rows_of}
use Rattle.vx_patches.specs.Making.{made, patches_fault}
use Rattle.vx_patches.specs.Pairs.{Overlay, IsOverlay, overlay, pairs_by, pairs_of, firsts, mapped}
use Rattle.vx_patches.proofs.Counts.{Rising-from_increasing, above_first, below_last}
use Rattle.vx_patches.proofs.Columns.{rows_number}
use Rattle.vx_patches.proofs.Cuts.{mapped_alike}
use Rattle.vx_patch_select.specs.Selected.{bit_at, unmasked_pairs}
use Rattle.vx_patch_select.specs.Plans.{placed_from, placed}
use Rattle.vx_patch_select.specs.Patched.{AreUnmasked}
use Rattle.vx_patch_select.proofs.Keeping.{places_left}
use Rattle.vx_patch_select.proofs.Numbers.{none_broken, no_rules, some_no, same_yes}
use Rattle.vx_patch_select.proofs.Filtering.{zip_placed, rows_inside, placed_within, seconds_on, no_map, all_counted, bit_all}
use Rattle.vx_patch_select.proofs.Planned.{zip_on, seconds_of}

-- ---- rows and their places

abbrev couple : ℕ → ℕ → ℕ × ℕ
couple row place = (row, place)

placed_at : (at : ℕ) (rows : List ℕ) (k : ℕ) (d : ℕ × ℕ) → k < length rows → get_or (placed_from at rows) k d ≡ couple (get_or rows k 0) (at + k)
placed_at at [] k d h = absurd (omega arith)
placed_at at (r ∷ rs) zero d h = let e : at ≡ at + 0 = omega arith in ap (couple r) e
placed_at at (r ∷ rs) (suc k) d h = let e : at + 1 + k ≡ at + suc k = omega arith in placed_at (at + 1) rs k d (omega arith) ∙ ap (couple (get_or rs k 0)) e

placed_number : (at : ℕ) (rows : List ℕ) → length (placed_from at rows) ≡ length rows
placed_number at [] = refl
placed_number at (r ∷ rs) = ap suc (placed_number (at + 1) rs)

-- each stands at its place
placed_stand : (rows : List ℕ) → All (λ (p : ℕ × ℕ). get_or rows p.1 0 ≡ p.0) (placed rows)
placed_stand rows = λ k d h.
    let here : k < length rows = omega (arith, placed_number 0 rows) in
    let e = placed_at 0 rows k d here in
    let same : 0 + k ≡ k = omega arith in
    ap (λ (p : ℕ × ℕ). get_or rows p.1 0) e ∙ ap (λ (n : ℕ). get_or rows n 0) same ∙ sym (ap (λ (p : ℕ × ℕ). p.0) e)

placed_rise : (rows : List ℕ) → AllPairs (λ (p q : ℕ × ℕ). p.1 < q.1) (placed rows)
placed_rise rows = λ i j d h l.
    let number = placed_number 0 rows in
    omega (arith, ap (λ (p : ℕ × ℕ). p.1) (placed_at 0 rows i d (omega (arith, number))), ap (λ (p : ℕ × ℕ). p.1) (placed_at 0 rows j d (omega (arith, number))))

-- ---- the places that are left

module _ (bits : List Bool) (rows : List ℕ) where
  abbrev left : List (ℕ × ℕ)
  left = unmasked_pairs bits (placed rows)

  pub places_number : (places : List ℕ) → places ≡ places_left bits rows → length places ≡ length left
  places_number places e = ap length e ∙ length-map left (λ (p : ℕ × ℕ). p.1)

  pub places_rise : (places : List ℕ) → places ≡ places_left bits rows → IsStrictlyIncreasing places
  places_rise places e = subst IsStrictlyIncreasing (sym e) (λ k h.
      let size : length (places_left bits rows) ≡ length left = length-map left (λ (p : ℕ × ℕ). p.1) in
      omega (
        arith,
        get_or-map (λ (p : ℕ × ℕ). p.1) left k (couple 0 0) 0 (omega arith),
        get_or-map (λ (p : ℕ × ℕ). p.1) left (k + 1) (couple 0 0) 0 (omega arith),
        AllPairs-filter (λ (p q : ℕ × ℕ). p.1 < q.1) (λ (p : ℕ × ℕ). not (bit_at bits p.0)) (placed rows) (placed_rise rows) k (k + 1) (couple 0 0) (omega arith) (omega arith),
      ))

  pub places_inside : (places : List ℕ) (n : ℕ) → places ≡ places_left bits rows → length rows ≡ n → All (λ place. place < n) places
  places_inside places n e size =
      subst (All (λ place. place < n)) (sym e)
      (All-map (λ place. place < n) (λ (p : ℕ × ℕ). p.1) left (All-filter (λ (p : ℕ × ℕ). not (bit_at bits p.0)) (λ (p : ℕ × ℕ). p.1 < n) (placed rows) (placed_within 0 rows n (omega (arith, size)))))

  pub places_few : (places : List ℕ) → places ≡ places_left bits rows → length places ≤ length rows
  places_few places e =
      let test = λ (p : ℕ × ℕ). not (bit_at bits p.0) in
      omega (arith, places_number places e, length-filter test (placed rows), count_by-le-length test (placed rows), placed_number 0 rows)

-- ---- pairs that are left, by their places

module _ {A B : Type 0} (f : A → B) (bits : List Bool) where
  abbrev on : ℕ × A → ℕ × B
  on p = (p.0, f p.1)

  unmasked_natural : (ps : List (ℕ × A)) → unmasked_pairs bits (map on ps) ≡ map on (unmasked_pairs bits ps)
  unmasked_natural [] = refl
  unmasked_natural (p ∷ ps) = by (not (bit_at bits p.0)) (unmasked_natural ps) where
    by : (t : Bool) → unmasked_pairs bits (map on ps) ≡ map on (unmasked_pairs bits ps) → cond t (on p ∷ unmasked_pairs bits (map on ps)) (unmasked_pairs bits (map on ps)) ≡ map on (cond t (p ∷ unmasked_pairs bits ps) (unmasked_pairs bits ps))
    by true rest = ap (λ (qs : List (ℕ × B)). on p ∷ qs) rest
    by false rest = rest

-- of a list with an entry for each row
unmasked_at : {A : Type 0} (bits : List Bool) (rows : List ℕ) (ys : List A) (d : A) → length rows ≡ length ys → unmasked_pairs bits (zip rows ys) ≡ map (λ (p : ℕ × ℕ). (p.0, get_or ys p.1 d)) (left bits rows)
unmasked_at {A} bits rows ys d size = ap (unmasked_pairs bits) (zip_placed 0 rows ys d (omega (arith, size))) ∙ unmasked_natural (λ (k : ℕ). get_or ys k d) bits (placed rows)

entries_left : {A : Type 0} (bits : List Bool) (rows : List ℕ) (ys : List A) (d : A) → length rows ≡ length ys →
    map (λ (p : ℕ × A). p.1) (unmasked_pairs bits (zip rows ys)) ≡ map (λ (k : ℕ). get_or ys k d) (places_left bits rows)
entries_left {A} bits rows ys d size = ap (map (λ (p : ℕ × A). p.1)) (unmasked_at bits rows ys d size) ∙ seconds_on (λ (k : ℕ). get_or ys k d) (left bits rows)

-- the rows at the places are the rows
rows_at : (rows : List ℕ) (ks : List (ℕ × ℕ)) → All (λ (p : ℕ × ℕ). get_or rows p.1 0 ≡ p.0) ks → map (λ (k : ℕ). get_or rows k 0) (map (λ (p : ℕ × ℕ). p.1) ks) ≡ map (λ (p : ℕ × ℕ). p.0) ks
rows_at rows [] h = refl
rows_at rows (p ∷ ps) h =
    ap (λ (n : ℕ). n ∷ map (λ (k : ℕ). get_or rows k 0) (map (λ (q : ℕ × ℕ). q.1) ps)) (All-head (λ (q : ℕ × ℕ). get_or rows q.1 0 ≡ q.0) p ps h)
    ∙ ap (λ (ns : List ℕ). p.0 ∷ ns) (rows_at rows ps (All-tail (λ (q : ℕ × ℕ). get_or rows q.1 0 ≡ q.0) p ps h))

-- rows and entries at the places are the pairs that are left
zip_left : {A : Type 0} (bits : List Bool) (rows : List ℕ) (ys : List A) (d : A) → length rows ≡ length ys →
    zip (map (λ (k : ℕ). get_or rows k 0) (places_left bits rows)) (map (λ (k : ℕ). get_or ys k d) (places_left bits rows)) ≡ unmasked_pairs bits (zip rows ys)
zip_left {A} bits rows ys d size =
    let ks = left bits rows in
    let stand = All-filter (λ (p : ℕ × ℕ). not (bit_at bits p.0)) (λ (p : ℕ × ℕ). get_or rows p.1 0 ≡ p.0) (placed rows) (placed_stand rows) in
    ap (λ (ns : List ℕ). zip ns (map (λ (k : ℕ). get_or ys k d) (places_left bits rows))) (rows_at rows ks stand)
    ∙ zip_on (λ (k : ℕ). get_or ys k d) ks
    ∙ sym (unmasked_at bits rows ys d size)

-- ---- what is picked at places

map_picked : {X Y : Type 0} (f : X → Y) (xs : List X) (d : X) (e : Y) (places : List ℕ) → All (λ k. k < length xs) places →
    map f (map (λ (k : ℕ). get_or xs k d) places) ≡ map (λ (k : ℕ). get_or (map f xs) k e) places
map_picked f xs d e [] h = refl
map_picked {X} {Y} f xs d e (k ∷ ks) h =
    ap (λ (y : Y). y ∷ map f (map (λ (j : ℕ). get_or xs j d) ks)) (sym (get_or-map f xs k d e (All-head (λ j. j < length xs) k ks h)))
    ∙ ap (λ (ys : List Y). get_or (map f xs) k e ∷ ys) (map_picked f xs d e ks (All-tail (λ j. j < length xs) k ks h))

numbers_picked : (rows : List (Option Value)) (places : List ℕ) → All (λ k. k < length rows) places → numbers_of (picked_at rows places) ≡ map (λ (k : ℕ). get_or (numbers_of rows) k 0) places
numbers_picked rows places h = map_picked (λ (r : Option Value). magnitude (row_int r)) rows None 0 places h

module _ (xs places : List ℕ) (rising : IsStrictlyIncreasing places) (inside : All (λ k. k < length xs) places) where
  abbrev these : List ℕ
  these = map (λ (k : ℕ). get_or xs k 0) places

  these_number : length these ≡ length places
  these_number = length-map places (λ (k : ℕ). get_or xs k 0)

  these_rise : IsStrictlyIncreasing xs → IsStrictlyIncreasing these
  these_rise r = λ k h.
      let size = these_number in
      let i = get_or places k 0 in
      let j = get_or places (k + 1) 0 in
      omega (
        arith,
        get_or-map (λ (n : ℕ). get_or xs n 0) places k 0 0 (omega arith),
        get_or-map (λ (n : ℕ). get_or xs n 0) places (k + 1) 0 0 (omega arith),
        Rising-from_increasing xs r i j (rising k (omega arith)) (inside (k + 1) 0 (omega arith)),
      )

  these_at : (k : ℕ) → k < length these → (get_or these k 0 ≡ get_or xs (get_or places k 0) 0) × (get_or places k 0 < length xs)
  these_at k h = let size = these_number in (get_or-map (λ (n : ℕ). get_or xs n 0) places k 0 0 (omega arith), inside k 0 (omega arith))

within_one : (lo hi x : ℕ) → lo ≤ x → x < hi → (nat_le lo x && nat_lt x hi) ≡ true
within_one lo hi x g h = grind (arith, nat_tests)

from_one : (lo x : ℕ) → lo ≤ x → (nat_le lo x && true) ≡ true
from_one lo x g = grind (arith, nat_tests)

all_between : (hi : ℕ) (xs : List ℕ) → ((k : ℕ) → k < length xs → get_or xs k 0 < hi) → all_within 0 (Some hi) xs ≡ true
all_between hi [] h = refl
all_between hi (x ∷ xs) h = and_from (nat_le 0 x && nat_lt x hi) (all_within 0 (Some hi) xs) (within_one 0 hi x (omega arith) (h 0 (omega arith))) (all_between hi xs (λ k l. h (suc k) (omega arith)))

all_from : (lo : ℕ) (xs : List ℕ) → ((k : ℕ) → k < length xs → lo ≤ get_or xs k 0) → all_within lo None xs ≡ true
all_from lo [] h = refl
all_from lo (x ∷ xs) h = and_from (nat_le lo x && true) (all_within lo None xs) (from_one lo x (h 0 (omega arith))) (all_from lo xs (λ k l. h (suc k) (omega arith)))

short_enough : (n : ℕ) → n < 2 ^ 64 → nat_le 18446744073709551616 n ≡ false
short_enough n h = grind (arith, nat_tests)

-- the places of exceptions that stay at rising places
abbrev pub index_at : Index → List ℕ → Index
index_at index places = made index.len index.offset (flat index.indices.dtype (picked_at index.indices.rows places)) None

-- the exceptions there, whose values may be null
abbrev pub overlay_at : Overlay → List ℕ → Overlay
overlay_at o places = overlay (index_at o.index places) (flat (nullable o.values.dtype) (picked_at o.values.rows places))

indices_inside : (o : Overlay) → IsOverlay o → (places : List ℕ) → All (λ place. place < length o.values.rows) places → All (λ place. place < length o.index.indices.rows) places
indices_inside o i places h = subst (λ (n : ℕ). All (λ place. place < n) places) (i.values ∙ length_numbers o.index.indices.rows) h

-- they break no rule
pub picked_no_fault : (o : Overlay) → IsOverlay o → (places : List ℕ) → 0 < length places → IsStrictlyIncreasing places → All (λ place. place < length o.values.rows) places → (values : Flat) → length values.rows ≡ length places →
    patches_fault o.index.len o.index.offset (flat o.index.indices.dtype (picked_at o.index.indices.rows places)) values None ≡ None
picked_no_fault o i places some rising within values long =
    let index = o.index in
    let rows = index.indices.rows in
    let xs = indices_of index in
    let inside : All (λ k. k < length xs) places = subst (λ (n : ℕ). All (λ place. place < n) places) i.values within in
    let ns = these xs places rising inside in
    let seen : numbers_of (picked_at rows places) ≡ ns = numbers_picked rows places (indices_inside o i places within) in
    let size : length (picked_at rows places) ≡ length places = length-map places (λ (k : ℕ). get_or rows k None) in
    let rise = these_rise xs places rising inside i.index.rising in
    let low : (k : ℕ) → k < length ns → index.offset ≤ get_or ns k 0 =
    λ k l. let at = these_at xs places rising inside k l in omega (arith, at.0, above_first index.offset xs i.index.rising i.index.above (get_or places k 0) at.1) in
    let high : (k : ℕ) → k < length ns → get_or ns k 0 < index.offset + index.len =
    λ k l. let at = these_at xs places rising inside k l in omega (arith, at.0, below_last (index.offset + index.len) xs i.index.rising i.index.below (get_or places k 0) at.1) in
    none_broken _ _ (short_enough (index.offset + index.len) i.index.short)
    (none_broken _ _ (some_no (length (picked_at rows places)) (omega arith))
    (none_broken _ _ (ap not i.index.unsigned)
    (none_broken _ _ (ap (λ (ys : List ℕ). not (strictly_increasing ys)) seen ∙ ap not (says-strictly_increasing ns rise))
    (none_broken _ _ (ap (λ (ys : List ℕ). not (all_within index.offset None ys)) seen ∙ ap not (all_from index.offset ns low))
    (none_broken _ _ (ap (λ (ys : List ℕ). not (all_within 0 (Some (index.offset + index.len)) ys)) seen ∙ ap not (all_between (index.offset + index.len) ns high))
    (none_broken _ _ (ap not (same_yes (length values.rows) (length (picked_at rows places)) (omega arith))) no_rules))))))

-- and so they are refused by no rule
pub left_no_fault : (o : Overlay) → IsOverlay o → (places : List ℕ) → 0 < length places → IsStrictlyIncreasing places → All (λ place. place < length o.values.rows) places → (len offset : ℕ) (lent indices values picked seen : Flat) →
    len ≡ o.index.len → offset ≡ o.index.offset → lent ≡ o.index.indices → indices ≡ flat lent.dtype (picked_at lent.rows places) → picked ≡ flat seen.dtype (picked_at seen.rows places) → values ≡ flat (nullable picked.dtype) picked.rows →
    patches_fault len offset indices values None ≡ None
left_no_fault o i places some rising within len offset lent indices values picked seen a b s e p v =
    let number : length values.rows ≡ length places =
    ap (λ (f : Flat). length f.rows) v ∙ ap (λ (f : Flat). length f.rows) p ∙ length-map places (λ (k : ℕ). get_or seen.rows k None) in
    ap (λ (n : ℕ). patches_fault n offset indices values None) a
    ∙ ap (λ (n : ℕ). patches_fault o.index.len n indices values None) b
    ∙ ap (λ (f : Flat). patches_fault o.index.len o.index.offset f values None) (e ∙ ap (λ (f : Flat). flat f.dtype (picked_at f.rows places)) s)
    ∙ picked_no_fault o i places some rising within values number

-- ---- other values for all

pairs_values : (o : Overlay) → IsOverlay o → length (pairs_of o) ≡ length o.values.rows
pairs_values o i =
    let number = rows_number o.index in
    let firsts_are : firsts (pairs_of o) ≡ rows_of o.index = firsts-zip (rows_of o.index) o.values.rows (i.values ∙ sym number) in
    sym (length-map (pairs_of o) (λ (p : ℕ × Option Value). p.0)) ∙ ap length firsts_are ∙ number ∙ sym i.values

-- as many as before: none is refused
pub mapped_all : (o shared : Overlay) (lent values : Flat) → IsOverlay o → shared ≡ o → lent ≡ o.values → values ≡ flat (nullable lent.dtype) lent.rows → IsOkUnless (mapped shared (Ok values)) OutOfMemory
mapped_all o shared lent values i s l v =
    let number : length values.rows ≡ length (pairs_of o) = ap (λ (f : Flat). length f.rows) v ∙ ap (λ (f : Flat). length f.rows) l ∙ sym (pairs_values o i) in
    subst (λ (q : Overlay). IsOkUnless (mapped q (Ok values)) OutOfMemory) (sym s)
    (subst (λ (r : Result Overlay ColumnError). IsOkUnless r OutOfMemory) (mapped_alike o values (length (pairs_of o)) (length values.rows) refl refl number) tt)

-- ---- what is left

module _ (bits : List Bool) (o : Overlay) (i : IsOverlay o) where
  abbrev rows : List ℕ
  rows = rows_of o.index

  rows_values : length rows ≡ length o.values.rows
  rows_values = rows_number o.index ∙ sym i.values

  pairs_number : length (unmasked_pairs bits (pairs_of o)) ≡ length (left bits rows)
  pairs_number = ap length (unmasked_at bits rows o.values.rows None rows_values) ∙ length-map (left bits rows) (λ (p : ℕ × ℕ). (p.0, get_or o.values.rows p.1 None))

  -- no place, no pair
  pub none_left : (places : List ℕ) → places ≡ places_left bits rows → length places ≡ 0 → unmasked_pairs bits (pairs_of o) ≡ []
  none_left places e none =
      let nil : left bits rows ≡ [] = no_map (λ (p : ℕ × ℕ). p.1) (left bits rows) (sym (ap length e) ∙ none) in
      unmasked_at bits rows o.values.rows None rows_values ∙ ap (map (λ (p : ℕ × ℕ). (p.0, get_or o.values.rows p.1 None))) nil

  pairs_at : (places : List ℕ) → places ≡ places_left bits rows → All (λ place. place < length o.values.rows) places → pairs_of (overlay_at o places) ≡ unmasked_pairs bits (pairs_of o)
  pairs_at places e within =
      let xs = indices_of o.index in
      let rs = o.index.indices.rows in
      let vs = o.values.rows in
      let inside : All (λ k. k < length xs) places = subst (λ (n : ℕ). All (λ place. place < n) places) i.values within in
      let seen : rows_of (index_at o.index places) ≡ map (λ (k : ℕ). get_or rows k 0) places =
      ap (map (λ (n : ℕ). n - o.index.offset)) (numbers_picked rs places (indices_inside o i places within)) ∙ map_picked (λ (n : ℕ). n - o.index.offset) xs 0 0 places inside in
      ap (λ (ns : List ℕ). zip ns (picked_at vs places)) seen
      ∙ ap (λ (ps : List ℕ). zip (map (λ (k : ℕ). get_or rows k 0) ps) (map (λ (k : ℕ). get_or vs k None) ps)) e
      ∙ zip_left bits rows vs None rows_values

  pub are_left : (places : List ℕ) → places ≡ places_left bits rows → All (λ place. place < length o.values.rows) places → 0 < length places → count_true bits ≢ 0 → AreUnmasked bits o (overlay_at o places)
  are_left places e within some true_one = record {
    some = λ none. absurd (omega (arith, some, places_number bits rows places e, pairs_number, ap length none));
    pairs = pairs_at places e within;
    values = refl;
    len = refl;
    offset = refl;
    indices = refl;
    numbers = numbers_picked o.index.indices.rows places (indices_inside o i places within) ∙ ap (map (λ (k : ℕ). get_or (indices_of o.index) k 0)) e
        ∙ sym (entries_left bits rows (indices_of o.index) 0 (rows_number o.index));
    whole = λ none. absurd (true_one none);
    dropped = λ _. refl;
  }

-- places of the rows as they are lent
pub places_seen : (bits : List Bool) (index seen : Index) (len offset : ℕ) (indices : Flat) (places plan : List ℕ) → seen ≡ made len offset indices None → offset ≡ index.offset → indices ≡ index.indices →
    plan ≡ places_left bits (rows_of seen) → places ≡ plan → places ≡ places_left bits (rows_of index)
places_seen bits index seen len offset indices places plan s f h e p =
    p ∙ e ∙ ap (λ (r : Index). places_left bits (rows_of r)) s ∙ ap (λ (n : ℕ). places_left bits (rows_of (made len n indices None))) f
    ∙ ap (λ (c : Flat). places_left bits (rows_of (made len index.offset c None))) h

pub as_many_seen : (index seen : Index) (len offset : ℕ) (indices : Flat) → seen ≡ made len offset indices None → indices ≡ index.indices → length (indices_of seen) ≡ length (indices_of index)
as_many_seen index seen len offset indices s h = ap (λ (r : Index). length (indices_of r)) s ∙ ap (λ (c : Flat). length (numbers_of c.rows)) h

-- a plan reads each index, and three columns are made of what it leaves
pub read_at_most : (start planned end seen number rows places : ℕ) → planned ≤ start + seen → end ≤ planned + 3 * places → seen ≡ number → places ≤ rows → rows ≡ number → end ≤ start + 4 * number
read_at_most start planned end seen number rows places a b c d e = omega arith

-- ---- no bit is true, or each

bit_none : (bits : List Bool) (row : ℕ) → count_true bits ≡ 0 → bit_at bits row ≡ false
bit_none [] row h = refl
bit_none (true ∷ bits) row h = absurd (omega (arith, sum_by-cons (λ (b : Bool). cond b 1 0) true bits))
bit_none (false ∷ bits) zero h = refl
bit_none (false ∷ bits) (suc row) h = bit_none bits row (omega (arith, sum_by-cons (λ (b : Bool). cond b 1 0) false bits))

all_unmasked : {A : Type 0} (bits : List Bool) (ps : List (ℕ × A)) → count_true bits ≡ 0 → unmasked_pairs bits ps ≡ ps
all_unmasked bits [] h = refl
all_unmasked {A} bits (p ∷ ps) h =
    ap (λ (t : Bool). cond (not t) (p ∷ unmasked_pairs bits ps) (unmasked_pairs bits ps)) (bit_none bits p.0 h) ∙ ap (λ (qs : List (ℕ × A)). p ∷ qs) (all_unmasked bits ps h)

all_masked_out : {A : Type 0} (bits : List Bool) (ps : List (ℕ × A)) → count_true bits ≡ length bits → ((k : ℕ) → k < length ps → get_or (firsts ps) k 0 < length bits) → unmasked_pairs bits ps ≡ []
all_masked_out bits [] h l = refl
all_masked_out {A} bits (p ∷ ps) h l =
    ap (λ (t : Bool). cond (not t) (p ∷ unmasked_pairs bits ps) (unmasked_pairs bits ps)) (bit_all bits p.0 (all_counted bits h) (l 0 (omega arith))) ∙ all_masked_out bits ps h (λ k m. l (suc k) (omega arith))

module _ (bits : List Bool) (o : Overlay) (i : IsOverlay o) where
  pub whole_left : count_true bits ≡ 0 → AreUnmasked bits o (overlay o.index (flat (nullable o.values.dtype) o.values.rows))
  whole_left h =
      let all = all_unmasked bits (pairs_of o) h in
      let number = rows_number o.index in
      let same : unmasked_pairs bits (pairs_by o.index (indices_of o.index)) ≡ pairs_by o.index (indices_of o.index) = all_unmasked bits (pairs_by o.index (indices_of o.index)) h in
      let firsts_are : firsts (pairs_of o) ≡ rows_of o.index = firsts-zip (rows_of o.index) o.values.rows (i.values ∙ sym number) in
      record {
        some = λ none. absurd (omega (arith, i.index.some, number, sym (ap length firsts_are), ap (λ (ps : List (ℕ × Option Value)). length (firsts ps)) (sym all ∙ none)));
        pairs = sym all;
        values = refl;
        len = refl;
        offset = refl;
        indices = refl;
        numbers = sym (ap (map (λ (p : ℕ × ℕ). p.1)) same ∙ seconds_of (rows_of o.index) (indices_of o.index) (sym number));
        whole = λ _. refl;
        dropped = λ not_none. absurd (not_none h);
      }

  pub nothing_left : length bits ≡ o.index.len → count_true bits ≡ length bits → unmasked_pairs bits (pairs_of o) ≡ []
  nothing_left long h =
      let number = rows_number o.index in
      let firsts_are : firsts (pairs_of o) ≡ rows_of o.index = firsts-zip (rows_of o.index) o.values.rows (i.values ∙ sym number) in
      let size : length (pairs_of o) ≡ length (rows_of o.index) = sym (length-map (pairs_of o) (λ (p : ℕ × Option Value). p.0)) ∙ ap length firsts_are in
      all_masked_out bits (pairs_of o) h
      (λ k l. subst (λ (ns : List ℕ). get_or ns k 0 < length bits) (sym firsts_are) (subst (λ (n : ℕ). get_or (rows_of o.index) k 0 < n) (sym long) (rows_inside o.index i.index k (omega arith))))
