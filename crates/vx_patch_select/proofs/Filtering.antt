-- What a filter leaves, as exceptions.
use Rattle.std.proofs.lemmas.Bool.Decides.{nat_tests}
use Rattle.std.proofs.Common.{◌≡◌, nat_eq, inl, inr, ℕ, zero, suc, ◌+◌, ◌-◌, ◌≤◌, ◌<◌, Bool, true, false, cond, List, [], ◌∷◌, length, get_or, take, drop, map, All, refl, sym, ◌∙◌, ap, subst, arith}
use Rattle.std.specs.Prelude.{Option, Some, None}
use Rattle.std.specs.List.{filter, zip}
use Rattle.std.specs.List.Sorted.{IsStrictlyIncreasing}
use Rattle.std.proofs.lemmas.Bool.{false≢true, cases_lt}
use Rattle.std.proofs.lemmas.List.Sums.{sum_by-cons, count_by-le-length}
use Rattle.std.proofs.lemmas.Slice.Zip.{firsts-zip}
use Rattle.std.proofs.lemmas.List.{drop_more, get_or-map, length-map}
use Rattle.std.proofs.lemmas.List.Elements.{All-filter, All-map, All-cons}
use Rattle.std.proofs.lemmas.List.Kept.{AllPairs-from_increasing, AllPairs-filter}
use Rattle.vx_rows.specs.declared.dtype.DType.{DType}
use Rattle.vx_rows.specs.declared.value.Value.{Value}
use Rattle.vx_base.specs.Column.{flat}
use Rattle.vx_bulk.specs.Selections.{picked_at}
use Rattle.vx_masks.specs.Bits.{all_true, count_true}
use Rattle.vx_masks.proofs.Counts.{count_split, count_all_before, all_true_is}
use Rattle.vx_patches.specs.Places.{Index, IsIndex, indices_of, rows_of}
use Rattle.vx_patches.specs.Pairs.{Overlay, IsOverlay, pairs_of, firsts}
use Rattle.vx_patches.proofs.Counts.{rise-le, above_first, below_last}
use Rattle.vx_patches.proofs.Columns.{rows_number, rows_rise}
use Rattle.vx_patch_select.specs.Selected.{bit_at, rank, kept_pairs}
use Rattle.vx_patch_select.specs.Plans.{placed_from, placed, planned}
use Rattle.vx_patch_select.specs.Patched.{fresh, of_pairs}
use Rattle.vx_patch_select.proofs.Galloping.{rank_yes, rank_all}

-- ---- rows with values are rows with places, and the values there

pub zip_placed : {A : Type 0} (at : ℕ) (rows : List ℕ) (whole : List A) (d : A) → at + length rows ≡ length whole → zip rows (drop at whole) ≡ map (λ (p : ℕ × ℕ). (p.0, get_or whole p.1 d)) (placed_from at rows)
zip_placed at [] whole d e = refl
zip_placed {A} at (r ∷ rs) whole d e =
    ap (zip (r ∷ rs)) (drop_more whole at d (omega arith)) ∙ ap (λ (ps : List (ℕ × A)). (r, get_or whole at d) ∷ ps) (zip_placed (at + 1) rs whole d (omega arith))

pub pairs_placed : (o : Overlay) → IsOverlay o → pairs_of o ≡ map (λ (p : ℕ × ℕ). (p.0, get_or o.values.rows p.1 None)) (placed (rows_of o.index))
pairs_placed o i = zip_placed 0 (rows_of o.index) o.values.rows None (omega (arith, rows_number o.index, i.values))

module _ {A B : Type 0} (f : A → B) (bits : List Bool) where
  abbrev on : ℕ × A → ℕ × B
  on p = (p.0, f p.1)

  pub kept_natural : (ps : List (ℕ × A)) → kept_pairs bits (map on ps) ≡ map on (kept_pairs bits ps)
  kept_natural [] = refl
  kept_natural (p ∷ ps) = by (bit_at bits p.0) (kept_natural ps) where
    by : (t : Bool) → kept_pairs bits (map on ps) ≡ map on (kept_pairs bits ps) →
        map (λ (q : ℕ × B). (rank bits q.0, q.1)) (cond t (on p ∷ filter (λ (q : ℕ × B). bit_at bits q.0) (map on ps)) (filter (λ (q : ℕ × B). bit_at bits q.0) (map on ps)))
        ≡ map on (map (λ (q : ℕ × A). (rank bits q.0, q.1)) (cond t (p ∷ filter (λ (q : ℕ × A). bit_at bits q.0) ps) (filter (λ (q : ℕ × A). bit_at bits q.0) ps)))
    by true rest = ap (λ (qs : List (ℕ × B)). (rank bits p.0, f p.1) ∷ qs) rest
    by false rest = rest

-- ---- the new indices rise, and the places are there

first_ranks : (bits : List Bool) (at : ℕ) (rows : List ℕ) → map (λ (p : ℕ × ℕ). p.0) (kept_pairs bits (placed_from at rows)) ≡ map (rank bits) (filter (bit_at bits) rows)
first_ranks bits at [] = refl
first_ranks bits at (r ∷ rs) = by (bit_at bits r) (first_ranks bits (at + 1) rs) where
  by : (t : Bool) → map (λ (p : ℕ × ℕ). p.0) (kept_pairs bits (placed_from (at + 1) rs)) ≡ map (rank bits) (filter (bit_at bits) rs) →
      map (λ (p : ℕ × ℕ). p.0) (map (λ (q : ℕ × ℕ). (rank bits q.0, q.1)) (cond t ((r, at) ∷ filter (λ (q : ℕ × ℕ). bit_at bits q.0) (placed_from (at + 1) rs)) (filter (λ (q : ℕ × ℕ). bit_at bits q.0) (placed_from (at + 1) rs))))
      ≡ map (rank bits) (cond t (r ∷ filter (bit_at bits) rs) (filter (bit_at bits) rs))
  by true rest = ap (λ (ns : List ℕ). rank bits r ∷ ns) rest
  by false rest = rest

filter_true : (test : ℕ → Bool) (xs : List ℕ) → All (λ x. test x ≡ true) (filter test xs)
filter_true test [] = λ k d h. absurd (omega arith)
filter_true test (x ∷ xs) = by (test x) refl (filter_true test xs) where
  by : (t : Bool) → test x ≡ t → All (λ y. test y ≡ true) (filter test xs) → All (λ y. test y ≡ true) (cond t (x ∷ filter test xs) (filter test xs))
  by true e rest = All-cons (λ y. test y ≡ true) x (filter test xs) e rest
  by false e rest = rest

bit_inside : (bits : List Bool) (row : ℕ) → bit_at bits row ≡ true → row < length bits
bit_inside [] row h = absurd (false≢true h)
bit_inside (b ∷ bits) zero h = omega arith
bit_inside (b ∷ bits) (suc row) h = omega (arith, bit_inside bits row h)

rank_less : (bits : List Bool) (row later : ℕ) → bit_at bits row ≡ true → row < later → rank bits row < rank bits later
rank_less bits row later h l = omega (arith, rank_yes bits row (bit_inside bits row h) h, count_split bits (row + 1) later (omega arith))

module _ (bits : List Bool) (rows : List ℕ) (rising : IsStrictlyIncreasing rows) where
  abbrev set : List ℕ
  set = filter (bit_at bits) rows

  set_below : (i j : ℕ) → i < j → j < length set → get_or set i 0 < get_or set j 0
  set_below i j h l = AllPairs-filter (λ (x y : ℕ). x < y) (bit_at bits) rows (AllPairs-from_increasing rows rising) i j 0 h l

  set_true : (k : ℕ) → k < length set → bit_at bits (get_or set k 0) ≡ true
  set_true k h = filter_true (bit_at bits) rows k 0 h

  ranks_rise : IsStrictlyIncreasing (map (rank bits) set)
  ranks_rise = λ k h.
      let long : length (map (rank bits) set) ≡ length set = length-map set (rank bits) in
      let one = get_or-map (rank bits) set k 0 0 (omega arith) in
      let two = get_or-map (rank bits) set (k + 1) 0 0 (omega arith) in
      omega (arith, one, two, rank_less bits (get_or set k 0) (get_or set (k + 1) 0) (set_true k (omega arith)) (set_below k (k + 1) (omega arith) (omega arith)))

  ranks_below : 0 < length (map (rank bits) set) → get_or (map (rank bits) set) (length (map (rank bits) set) - 1) 0 < count_true bits
  ranks_below some =
      let long : length (map (rank bits) set) ≡ length set = length-map set (rank bits) in
      let last = length (map (rank bits) set) - 1 in
      let one = get_or-map (rank bits) set last 0 0 (omega arith) in
      let row = get_or set last 0 in
      let here = set_true last (omega arith) in
      omega (arith, one, rank_less bits row (length bits) here (bit_inside bits row here), rank_all bits (length bits) (omega arith))

-- each row is one of those that there are
pub rows_inside : (index : Index) → IsIndex index → (k : ℕ) → k < length (rows_of index) → get_or (rows_of index) k 0 < index.len
rows_inside index i k l =
    let xs = indices_of index in
    let here : k < length xs = omega (arith, rows_number index) in
    omega (
      arith,
      get_or-map (λ (n : ℕ). n - index.offset) xs k 0 0 here,
      above_first index.offset xs i.rising i.above k here,
      below_last (index.offset + index.len) xs i.rising i.below k here,
    )

rows_increase : (index : Index) → IsIndex index → IsStrictlyIncreasing (rows_of index)
rows_increase index i = λ k h. rows_rise index i k (k + 1) (omega arith) h

pub indices_rise : (bits : List Bool) (index : Index) → IsIndex index → (xs : List ℕ) → xs ≡ map (λ (p : ℕ × ℕ). p.0) (planned bits index) → IsStrictlyIncreasing xs
indices_rise bits index i xs e = subst IsStrictlyIncreasing (sym (e ∙ first_ranks bits 0 (rows_of index))) (ranks_rise bits (rows_of index) (rows_increase index i))

pub indices_below : (bits : List Bool) (index : Index) → IsIndex index → (xs : List ℕ) (n : ℕ) → xs ≡ map (λ (p : ℕ × ℕ). p.0) (planned bits index) → n ≡ count_true bits → 0 < length xs → get_or xs (length xs - 1) 0 < n
indices_below bits index i xs n e h =
    subst (λ (m : ℕ). 0 < length xs → get_or xs (length xs - 1) 0 < m) (sym h)
    (subst (λ (ys : List ℕ). 0 < length ys → get_or ys (length ys - 1) 0 < count_true bits) (sym (e ∙ first_ranks bits 0 (rows_of index))) (ranks_below bits (rows_of index) (rows_increase index i)))

pub placed_within : (at : ℕ) (rows : List ℕ) (n : ℕ) → at + length rows ≡ n → All (λ (p : ℕ × ℕ). p.1 < n) (placed_from at rows)
placed_within at [] n e = λ k d h. absurd (omega arith)
placed_within at (r ∷ rs) n e = All-cons (λ (p : ℕ × ℕ). p.1 < n) (r, at) (placed_from (at + 1) rs) (omega arith) (placed_within (at + 1) rs n (omega arith))

pub places_within : (bits : List Bool) (o : Overlay) → IsOverlay o → (xs : List ℕ) → xs ≡ map (λ (p : ℕ × ℕ). p.1) (planned bits o.index) → All (λ place. place < length o.values.rows) xs
places_within bits o i xs e =
    let n = length o.values.rows in
    let all : All (λ (p : ℕ × ℕ). p.1 < n) (placed (rows_of o.index)) = placed_within 0 (rows_of o.index) n (omega (arith, rows_number o.index, i.values)) in
    let kept = All-filter (λ (p : ℕ × ℕ). bit_at bits p.0) (λ (p : ℕ × ℕ). p.1 < n) (placed (rows_of o.index)) all in
    subst (All (λ place. place < n)) (sym e)
    (All-map (λ place. place < n) (λ (p : ℕ × ℕ). p.1) (planned bits o.index) (All-map (λ (p : ℕ × ℕ). p.1 < n) (λ (p : ℕ × ℕ). (rank bits p.0, p.1)) (filter (λ (p : ℕ × ℕ). bit_at bits p.0) (placed (rows_of o.index))) kept))

-- ---- the exceptions that are left

firsts_on : {A : Type 0} (f : ℕ → A) (ps : List (ℕ × ℕ)) → firsts (map (λ (p : ℕ × ℕ). (p.0, f p.1)) ps) ≡ map (λ (p : ℕ × ℕ). p.0) ps
firsts_on f [] = refl
firsts_on f (p ∷ ps) = ap (λ (ns : List ℕ). p.0 ∷ ns) (firsts_on f ps)

pub seconds_on : {A : Type 0} (f : ℕ → A) (ps : List (ℕ × ℕ)) → map (λ (p : ℕ × A). p.1) (map (λ (p : ℕ × ℕ). (p.0, f p.1)) ps) ≡ map f (map (λ (p : ℕ × ℕ). p.1) ps)
seconds_on f [] = refl
seconds_on {A} f (p ∷ ps) = ap (λ (xs : List A). f p.1 ∷ xs) (seconds_on f ps)

some_pairs : (n : ℕ) (dtype : DType) (ps : List (ℕ × Option Value)) → 0 < length ps → of_pairs n dtype ps ≡ Some (fresh n (firsts ps) (flat dtype (map (λ (p : ℕ × Option Value). p.1) ps)))
some_pairs n dtype [] h = absurd (omega arith)
some_pairs n dtype (p ∷ ps) h = refl

-- what is planned, made of picked values, is what the pairs become
pub filter_made : (bits : List Bool) (o : Overlay) → IsOverlay o → (n : ℕ) (indices places : List ℕ) → indices ≡ map (λ (p : ℕ × ℕ). p.0) (planned bits o.index) → places ≡ map (λ (p : ℕ × ℕ). p.1) (planned bits o.index) →
    0 < length places → n ≡ count_true bits → Some (fresh n indices (flat o.values.dtype (picked_at o.values.rows places))) ≡ of_pairs (count_true bits) o.values.dtype (kept_pairs bits (pairs_of o))
filter_made bits o i n indices places e f some h =
    let value : ℕ → Option Value = λ k. get_or o.values.rows k None in
    let pair : ℕ × ℕ → ℕ × Option Value = λ p. (p.0, value p.1) in
    let ks = planned bits o.index in
    let all : kept_pairs bits (pairs_of o) ≡ map pair ks = ap (kept_pairs bits) (pairs_placed o i) ∙ kept_natural value bits (placed (rows_of o.index)) in
    let number : length places ≡ length (map pair ks) = ap length f ∙ length-map ks (λ (p : ℕ × ℕ). p.1) ∙ sym (length-map ks pair) in
    sym (ap (of_pairs (count_true bits) o.values.dtype) all ∙ some_pairs (count_true bits) o.values.dtype (map pair ks) (subst (λ (m : ℕ). 0 < m) number some)
    ∙ ap (λ (ns : List ℕ). Some (fresh (count_true bits) ns (flat o.values.dtype (map (λ (p : ℕ × Option Value). p.1) (map pair ks))))) (firsts_on value ks ∙ sym e)
    ∙ ap (λ (vs : List (Option Value)). Some (fresh (count_true bits) indices (flat o.values.dtype vs))) (seconds_on value ks ∙ ap (map value) (sym f))
    ∙ ap (λ (m : ℕ). Some (fresh m indices (flat o.values.dtype (picked_at o.values.rows places)))) (sym h))

pub no_map : {A : Type 0} (f : ℕ × ℕ → A) (ps : List (ℕ × ℕ)) → length (map f ps) ≡ 0 → ps ≡ []
no_map f [] h = refl
no_map f (p ∷ ps) h = absurd (omega arith)

pub filter_none : (bits : List Bool) (o : Overlay) → IsOverlay o → (places : List ℕ) → places ≡ map (λ (p : ℕ × ℕ). p.1) (planned bits o.index) → length places ≡ 0 →
    None ≡ of_pairs (count_true bits) o.values.dtype (kept_pairs bits (pairs_of o))
filter_none bits o i places f none =
    let value = λ (k : ℕ). get_or o.values.rows k None in
    let all = ap (kept_pairs bits) (pairs_placed o i) ∙ kept_natural value bits (placed (rows_of o.index)) in
    let nil : planned bits o.index ≡ [] = no_map (λ (p : ℕ × ℕ). p.1) (planned bits o.index) (sym (ap length f) ∙ none) in
    sym (ap (of_pairs (count_true bits) o.values.dtype) (all ∙ ap (map (λ (p : ℕ × ℕ). (p.0, value p.1))) nil))

-- ---- masks of true bits alone

pub count_least : (bits : List Bool) → count_true bits ≤ length bits
count_least bits = count_by-le-length (λ (b : Bool). b) bits

pub all_counted : (bits : List Bool) → count_true bits ≡ length bits → all_true bits ≡ true
all_counted [] h = refl
all_counted (true ∷ bits) h = all_counted bits (omega (arith, sum_by-cons (λ (b : Bool). cond b 1 0) true bits))
all_counted (false ∷ bits) h = absurd (omega (arith, sum_by-cons (λ (b : Bool). cond b 1 0) false bits, count_least bits))

counted_all : (bits : List Bool) → all_true bits ≡ true → count_true bits ≡ length bits
counted_all [] h = refl
counted_all (true ∷ bits) h = omega (arith, sum_by-cons (λ (b : Bool). cond b 1 0) true bits, counted_all bits h)
counted_all (false ∷ bits) h = absurd (false≢true h)

-- so many are true as there are, and so all are
pub is_all : (bits : List Bool) → count_true bits ≡ length bits → all_true bits ≡ false → ⊥
is_all bits h e = false≢true (sym e ∙ all_counted bits h)

pub is_not_all : (bits : List Bool) → (count_true bits ≡ length bits → ⊥) → all_true bits ≡ true → ⊥
is_not_all bits h e = h (counted_all bits e)

pub bit_all : (bits : List Bool) (row : ℕ) → all_true bits ≡ true → row < length bits → bit_at bits row ≡ true
bit_all [] row h l = absurd (omega arith)
bit_all (true ∷ bits) zero h l = refl
bit_all (true ∷ bits) (suc row) h l = bit_all bits row h (omega arith)
bit_all (false ∷ bits) row h l = absurd (false≢true h)

all_rank : (bits : List Bool) (row : ℕ) → all_true bits ≡ true → row ≤ length bits → rank bits row ≡ row
all_rank bits row h l = omega (arith, count_all_before (length bits) row l, ap (λ (bs : List Bool). count_true (take row bs)) (all_true_is bits h))

-- then each pair stays
pub all_kept : {A : Type 0} (bits : List Bool) (ps : List (ℕ × A)) → all_true bits ≡ true → ((k : ℕ) → k < length ps → get_or (firsts ps) k 0 < length bits) → kept_pairs bits ps ≡ ps
all_kept bits [] h l = refl
all_kept {A} bits (p ∷ ps) h l =
    ap (λ (t : Bool). map (λ (q : ℕ × A). (rank bits q.0, q.1)) (cond t (p ∷ filter (λ (q : ℕ × A). bit_at bits q.0) ps) (filter (λ (q : ℕ × A). bit_at bits q.0) ps))) (bit_all bits p.0 h (l 0 (omega arith)))
    ∙ ap (λ (n : ℕ). (n, p.1) ∷ kept_pairs bits ps) (all_rank bits p.0 h (omega (arith, l 0 (omega arith))))
    ∙ ap (λ (qs : List (ℕ × A)). p ∷ qs) (all_kept bits ps h (λ k m. l (suc k) (omega arith)))

pub whole_kept : (bits : List Bool) (o : Overlay) → IsOverlay o → length bits ≡ o.index.len → count_true bits ≡ length bits → pairs_of o ≡ kept_pairs bits (pairs_of o)
whole_kept bits o i long h =
    let rows = rows_of o.index in
    let size = rows_number o.index in
    let these : firsts (pairs_of o) ≡ rows = firsts-zip rows o.values.rows (i.values ∙ sym size) in
    let number : length (pairs_of o) ≡ length rows = sym (length-map (pairs_of o) (λ (p : ℕ × Option Value). p.0)) ∙ ap length these in
    sym (all_kept bits (pairs_of o) (all_counted bits h)
    (λ k l. subst (λ (ns : List ℕ). get_or ns k 0 < length bits) (sym these) (subst (λ (n : ℕ). get_or rows k 0 < n) (sym long) (rows_inside o.index i.index k (omega arith)))))

-- at most so many are kept as bits are true
pub few_kept : (bits : List Bool) (index : Index) → IsIndex index → (places : List ℕ) → places ≡ map (λ (p : ℕ × ℕ). p.1) (planned bits index) → length places ≤ count_true bits
few_kept bits index i places e =
    let ks = planned bits index in
    let ns = map (λ (p : ℕ × ℕ). p.0) ks in
    let number : length places ≡ length ks = ap length e ∙ length-map ks (λ (p : ℕ × ℕ). p.1) in
    let size : length ns ≡ length ks = length-map ks (λ (p : ℕ × ℕ). p.0) in
    elim (cases_lt 0 (length ns)) as (λ _. length places ≤ count_true bits) [
      | inl some ↦
          omega (arith, indices_below bits index i ns (count_true bits) refl refl some, rise-le ns (indices_rise bits index i ns refl) 0 (length ns - 1) (omega arith) (omega arith))
      | inr none ↦ omega arith
    ]

-- as many indices as places
pub as_many : (ks : List (ℕ × ℕ)) (xs ys : List ℕ) → xs ≡ map (λ (p : ℕ × ℕ). p.0) ks → ys ≡ map (λ (p : ℕ × ℕ). p.1) ks → length xs ≡ length ys
as_many ks xs ys e f = ap length e ∙ length-map ks (λ (p : ℕ × ℕ). p.0) ∙ sym (ap length f ∙ length-map ks (λ (p : ℕ × ℕ). p.1))

pub empty_is : (n : ℕ) → nat_eq n 0 ≡ true → n ≡ 0
empty_is n h = grind (arith, nat_tests)

pub empty_not : (n : ℕ) → nat_eq n 0 ≡ false → 0 < n
empty_not n h = grind (arith, nat_tests)
