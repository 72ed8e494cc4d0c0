-- What a plan of a take holds, and the exceptions that it makes.
use Rattle.std.proofs.Common.{ℕ, zero, suc, ◌≡◌, ◌∙◌, ◌<◌, ◌≤◌, ◌+◌, sym, ap, refl, subst, arith, length, get_or, map, nat_eq, cond, Bool, true, false, ◌||◌, List, [], ◌∷◌, All, Option, Some, None}
use Rattle.std.specs.Prelude.{option_map}
use Rattle.std.specs.Option.{is_none, is_some, unwrap_or}
use Rattle.std.specs.List.{list_any, filter_map, cons_option, enumerate_from, zip}
use Rattle.std.specs.List.Sorted.{IsStrictlyIncreasing}
use Rattle.std.proofs.lemmas.Bool.{false≢true}
use Rattle.std.proofs.lemmas.List.{length-map}
use Rattle.std.proofs.lemmas.List.Elements.{All-cons, All-head, All-tail}
use Rattle.vx_rows.specs.declared.value.Value.{Value}
use Rattle.vx_rows.specs.declared.dtype.DType.{DType}
use Rattle.vx_rows.specs.Types.{nullability}
use Rattle.vx_rows.specs.Fits.{is_nullable, rows_fit}
use Rattle.vx_base.specs.Column.{Flat, flat}
use Rattle.vx_bulk.specs.Types.{nullable, taken_type}
use Rattle.vx_bulk.specs.Selections.{picked_row, picked, IsWithin}
use Rattle.vx_patches.specs.Places.{rows_of}
use Rattle.vx_patches.specs.Pairs.{Overlay, IsOverlay, pairs_of, firsts, value_at}
use Rattle.vx_patches.proofs.Columns.{rows_number}
use Rattle.vx_patch_select.specs.Selected.{named, taken_pairs}
use Rattle.vx_patch_select.specs.Plans.{placed_from, placed, placed_some, taken_of}
use Rattle.vx_patch_select.specs.declared.plan.Taken.{Taken}
use Rattle.vx_patch_select.specs.Patched.{fresh, of_pairs}
use Rattle.vx_patch_select.specs.Takes.{names_rows, asked, taken}
use Rattle.vx_patch_select.proofs.Filtering.{pairs_placed}
use Rattle.vx_patch_select.proofs.Asking.{all_present}

-- ---- values in place of places

module _ {A B : Type 0} (f : Option A → Option B) (nothing : f None ≡ None) (nulls : Bool) where
  abbrev on : ℕ × Option A → ℕ × Option B
  on p = (p.0, f p.1)

  value_natural : (row : ℕ) (pairs : List (ℕ × Option A)) → value_at row (map on pairs) ≡ option_map f (value_at row pairs)
  value_natural row [] = refl
  value_natural row (p ∷ ps) = by (nat_eq p.0 row) (value_natural row ps) where
    by : (b : Bool) → value_at row (map on ps) ≡ option_map f (value_at row ps) → cond b (Some (f p.1)) (value_at row (map on ps)) ≡ option_map f (cond b (Some p.1) (value_at row ps))
    by true rest = refl
    by false rest = rest

  absent_natural : (t : Bool) → cond {A = Option (Option B)} t (Some None) None ≡ option_map f (cond t (Some None) None)
  absent_natural true = ap Some (sym nothing)
  absent_natural false = refl

  named_natural : (pairs : List (ℕ × Option A)) (index : Option ℕ) → named nulls (map on pairs) index ≡ option_map f (named nulls pairs index)
  named_natural pairs None = absent_natural nulls
  named_natural pairs (Some row) = value_natural row pairs

  entry_natural : (at : ℕ) (o : Option (Option A)) (rest : List (ℕ × Option A)) →
      cons_option (option_map (λ (v : Option B). (at, v)) (option_map f o)) (map on rest) ≡ map on (cons_option (option_map (λ (v : Option A). (at, v)) o) rest)
  entry_natural at None rest = refl
  entry_natural at (Some v) rest = refl

  natural_from : (pairs : List (ℕ × Option A)) (at : ℕ) (indices : List (Option ℕ)) →
      filter_map (λ (e : ℕ × Option ℕ). option_map (λ (v : Option B). (e.0, v)) (named nulls (map on pairs) e.1)) (enumerate_from at indices)
      ≡ map on (filter_map (λ (e : ℕ × Option ℕ). option_map (λ (v : Option A). (e.0, v)) (named nulls pairs e.1)) (enumerate_from at indices))
  natural_from pairs at [] = refl
  natural_from pairs at (i ∷ is) =
      let rest = filter_map (λ (e : ℕ × Option ℕ). option_map (λ (v : Option A). (e.0, v)) (named nulls pairs e.1)) (enumerate_from (at + 1) is) in
      ap (cons_option (option_map (λ (v : Option B). (at, v)) (named nulls (map on pairs) i))) (natural_from pairs (at + 1) is)
      ∙ ap (λ (o : Option (Option B)). cons_option (option_map (λ (v : Option B). (at, v)) o) (map on rest)) (named_natural pairs i)
      ∙ entry_natural at (named nulls pairs i) rest

  pub taken_natural : (pairs : List (ℕ × Option A)) (indices : List (Option ℕ)) → taken_pairs nulls (map on pairs) indices ≡ map on (taken_pairs nulls pairs indices)
  taken_natural pairs indices = natural_from pairs 0 indices

pub zip_on : {A B : Type 0} (f : A → B) (ps : List (ℕ × A)) → zip (map (λ (p : ℕ × A). p.0) ps) (map f (map (λ (p : ℕ × A). p.1) ps)) ≡ map (λ (p : ℕ × A). (p.0, f p.1)) ps
zip_on f [] = refl
zip_on {A} {B} f (p ∷ ps) = ap (λ (qs : List (ℕ × B)). (p.0, f p.1) ∷ qs) (zip_on f ps)

picked_some : {A : Type 0} (vs : List (Option A)) (ps : List (ℕ × ℕ)) →
    map {B = ℕ × Option A} (λ (p : ℕ × ℕ). (p.0, get_or vs p.1 None)) ps ≡ map {B = ℕ × Option A} (λ (p : ℕ × Option ℕ). (p.0, picked_row vs p.1)) (map {B = ℕ × Option ℕ} (λ (p : ℕ × ℕ). (p.0, Some p.1)) ps)
picked_some vs [] = refl
picked_some {A} vs (p ∷ ps) = ap (λ (qs : List (ℕ × Option A)). (p.0, get_or vs p.1 None) ∷ qs) (picked_some vs ps)

-- the indices of a plan with the picked values are the pairs that are taken
pub taken_made : (nulls : Bool) (o : Overlay) → IsOverlay o → (indices : List (Option ℕ)) →
    zip (map (λ (p : ℕ × Option ℕ). p.0) (taken_pairs nulls (placed_some (rows_of o.index)) indices)) (picked o.values.rows (map (λ (p : ℕ × Option ℕ). p.1) (taken_pairs nulls (placed_some (rows_of o.index)) indices)))
    ≡ taken_pairs nulls (pairs_of o) indices
taken_made nulls o i indices =
    let vs = o.values.rows in
    let ps = placed_some (rows_of o.index) in
    zip_on (picked_row vs) (taken_pairs nulls ps indices)
    ∙ sym (taken_natural (picked_row vs) refl nulls ps indices)
    ∙ ap (λ (qs : List (ℕ × Option Value)). taken_pairs nulls qs indices) (sym (pairs_placed o i ∙ picked_some vs (placed (rows_of o.index))))

-- ---- the positions rise, and are positions

module _ {A : Type 0} (nulls : Bool) (pairs : List (ℕ × Option A)) where
  abbrev from : ℕ → List (Option ℕ) → List (ℕ × Option A)
  from at indices = filter_map (λ (e : ℕ × Option ℕ). option_map (λ (v : Option A). (e.0, v)) (named nulls pairs e.1)) (enumerate_from at indices)

  abbrev positions : ℕ → List (Option ℕ) → List ℕ
  positions at indices = map (λ (p : ℕ × Option A). p.0) (from at indices)

  between : (at end : ℕ) (indices : List (Option ℕ)) → at + length indices ≤ end → All (λ k. (at ≤ k) × (k < end)) (positions at indices)
  between at end [] h = λ k d l. absurd (omega arith)
  between at end (i ∷ is) h = by (named nulls pairs i) (λ k d l. let b = between (at + 1) end is (omega arith) k d l in (omega (arith, b.0), b.1)) where
    by : (o : Option (Option A)) → All (λ k. (at ≤ k) × (k < end)) (positions (at + 1) is) → All (λ k. (at ≤ k) × (k < end)) (map (λ (p : ℕ × Option A). p.0) (cons_option (option_map (λ (v : Option A). (at, v)) o) (from (at + 1) is)))
    by None later = later
    by (Some v) later = All-cons (λ k. (at ≤ k) × (k < end)) at (positions (at + 1) is) (omega arith, omega arith) later

  rising_from : (at : ℕ) (indices : List (Option ℕ)) → IsStrictlyIncreasing (positions at indices)
  rising_from at [] = λ k h. absurd (omega arith)
  rising_from at (i ∷ is) = by (named nulls pairs i) (rising_from (at + 1) is) where
    after : All (λ k. (at + 1 ≤ k) × (k < at + 1 + length is)) (positions (at + 1) is)
    after = between (at + 1) (at + 1 + length is) is (omega arith)

    step : IsStrictlyIncreasing (positions (at + 1) is) → IsStrictlyIncreasing (at ∷ positions (at + 1) is)
    step rest zero h = omega (arith, (after 0 0 (omega arith)).0)
    step rest (suc k) h =
        let same : suc (k + 1) ≡ suc k + 1 = omega arith in
        subst (λ (n : ℕ). get_or (at ∷ positions (at + 1) is) (suc k) 0 < get_or (at ∷ positions (at + 1) is) n 0) same (rest k (omega arith))

    by : (o : Option (Option A)) → IsStrictlyIncreasing (positions (at + 1) is) → IsStrictlyIncreasing (map (λ (p : ℕ × Option A). p.0) (cons_option (option_map (λ (v : Option A). (at, v)) o) (from (at + 1) is)))
    by None rest = rest
    by (Some v) rest = step rest

  fewer : (at : ℕ) (indices : List (Option ℕ)) → length (from at indices) ≤ length indices
  fewer at [] = omega arith
  fewer at (i ∷ is) = by (named nulls pairs i) (fewer (at + 1) is) where
    by : (o : Option (Option A)) → length (from (at + 1) is) ≤ length is → length (cons_option (option_map (λ (v : Option A). (at, v)) o) (from (at + 1) is)) ≤ length (i ∷ is)
    by None rest = omega (arith, rest)
    by (Some v) rest = omega (arith, rest)

  pub positions_rise : (indices : List (Option ℕ)) → IsStrictlyIncreasing (map (λ (p : ℕ × Option A). p.0) (taken_pairs nulls pairs indices))
  positions_rise indices = rising_from 0 indices

  pub positions_below : (indices : List (Option ℕ)) → All (λ k. k < length indices) (map (λ (p : ℕ × Option A). p.0) (taken_pairs nulls pairs indices))
  positions_below indices = λ k d l. (between 0 (length indices) indices (omega arith) k d l).1

  pub as_few : (indices : List (Option ℕ)) → length (map (λ (p : ℕ × Option A). p.1) (taken_pairs nulls pairs indices)) ≤ length indices
  as_few indices = omega (arith, length-map (taken_pairs nulls pairs indices) (λ (p : ℕ × Option A). p.1), fewer 0 indices)

-- ---- the places are there

some_same : {A : Type 0} (x y : A) → Some x ≡ Some y → x ≡ y
some_same x y h = ap (λ o. unwrap_or o x) h

-- what is named is one of the values, or nothing
value_holds : {A : Type 0} (P : Option A → Type 0) (row : ℕ) (pairs : List (ℕ × Option A)) (v : Option A) → All (λ (p : ℕ × Option A). P p.1) pairs → value_at row pairs ≡ Some v → P v
value_holds P row [] v all e = absurd (false≢true (ap is_some e))
value_holds {A} P row (p ∷ ps) v all e = by (nat_eq p.0 row) e (value_holds P row ps v (All-tail (λ (q : ℕ × Option A). P q.1) p ps all)) where
  by : (b : Bool) → cond b (Some p.1) (value_at row ps) ≡ Some v → (value_at row ps ≡ Some v → P v) → P v
  by true h rest = subst P (some_same p.1 v h) (All-head (λ (q : ℕ × Option A). P q.1) p ps all)
  by false h rest = rest h

module _ {A : Type 0} (P : Option A → Type 0) (nothing : P None) (nulls : Bool) (pairs : List (ℕ × Option A)) (all : All (λ (p : ℕ × Option A). P p.1) pairs) where
  named_holds : (index : Option ℕ) (v : Option A) → named nulls pairs index ≡ Some v → P v
  named_holds None v e = by nulls e where
    by : (t : Bool) → cond {A = Option (Option A)} t (Some None) None ≡ Some v → P v
    by true h = subst P (some_same None v h) nothing
    by false h = absurd (false≢true (ap is_some h))
  named_holds (Some row) v e = value_holds P row pairs v all e

  values_from : (at : ℕ) (indices : List (Option ℕ)) → All P (map (λ (p : ℕ × Option A). p.1) (from nulls pairs at indices))
  values_from at [] = λ k d l. absurd (omega arith)
  values_from at (i ∷ is) = by (named nulls pairs i) refl (values_from (at + 1) is) where
    by : (o : Option (Option A)) → named nulls pairs i ≡ o → All P (map (λ (p : ℕ × Option A). p.1) (from nulls pairs (at + 1) is)) →
        All P (map (λ (p : ℕ × Option A). p.1) (cons_option (option_map (λ (v : Option A). (at, v)) o) (from nulls pairs (at + 1) is)))
    by None e rest = rest
    by (Some v) e rest = All-cons P v (map (λ (p : ℕ × Option A). p.1) (from nulls pairs (at + 1) is)) (named_holds i v e) rest

within_some : (n at : ℕ) (rows : List ℕ) → at + length rows ≡ n → All (λ (p : ℕ × Option ℕ). IsWithin n p.1) (map (λ (p : ℕ × ℕ). (p.0, Some p.1)) (placed_from at rows))
within_some n at [] e = λ k d l. absurd (omega arith)
within_some n at (r ∷ rs) e =
    All-cons (λ (p : ℕ × Option ℕ). IsWithin n p.1) (r, Some at) (map (λ (p : ℕ × ℕ). (p.0, Some p.1)) (placed_from (at + 1) rs)) (omega arith) (within_some n (at + 1) rs (omega arith))

pub places_there : (nulls : Bool) (o : Overlay) → IsOverlay o → (indices : List (Option ℕ)) →
    All (IsWithin (length o.values.rows)) (map (λ (p : ℕ × Option ℕ). p.1) (taken_pairs nulls (placed_some (rows_of o.index)) indices))
places_there nulls o i indices =
    values_from (IsWithin (length o.values.rows)) tt nulls (placed_some (rows_of o.index))
    (within_some (length o.values.rows) 0 (rows_of o.index) (omega (arith, rows_number o.index, i.values))) 0 indices

-- ---- where no index is absent, no place is

value_present : (row : ℕ) (ps : List (ℕ × ℕ)) (v : Option ℕ) → value_at row (map (λ (p : ℕ × ℕ). (p.0, Some p.1)) ps) ≡ Some v → is_none v ≡ false
value_present row [] v e = absurd (false≢true (ap is_some e))
value_present row (p ∷ ps) v e = by (nat_eq p.0 row) e (value_present row ps v) where
  by : (b : Bool) → cond b (Some (Some p.1)) (value_at row (map (λ (q : ℕ × ℕ). (q.0, Some q.1)) ps)) ≡ Some v → (value_at row (map (λ (q : ℕ × ℕ). (q.0, Some q.1)) ps) ≡ Some v → is_none v ≡ false) → is_none v ≡ false
  by true h rest = subst (λ (o : Option ℕ). is_none o ≡ false) (some_same (Some p.1) v h) refl
  by false h rest = rest h

or_no : (a b : Bool) → a ≡ false → b ≡ false → (a || b) ≡ false
or_no false b x y = y
or_no true b x y = x

present_from : (nulls : Bool) (rows : List ℕ) (at : ℕ) (indices : List (Option ℕ)) → list_any is_none indices ≡ false → list_any is_none (map (λ (p : ℕ × Option ℕ). p.1) (from nulls (placed_some rows) at indices)) ≡ false
present_from nulls rows at [] h = refl
present_from nulls rows at (None ∷ is) h = absurd (false≢true (sym h))
present_from nulls rows at (Some row ∷ is) h = by (value_at row (placed_some rows)) refl (present_from nulls rows (at + 1) is h) where
  by : (o : Option (Option ℕ)) → value_at row (placed_some rows) ≡ o → list_any is_none (map (λ (p : ℕ × Option ℕ). p.1) (from nulls (placed_some rows) (at + 1) is)) ≡ false →
      list_any is_none (map (λ (p : ℕ × Option ℕ). p.1) (cons_option (option_map (λ (v : Option ℕ). (at, v)) o) (from nulls (placed_some rows) (at + 1) is))) ≡ false
  by None e rest = rest
  by (Some v) e rest = or_no (is_none v) (list_any is_none (map (λ (p : ℕ × Option ℕ). p.1) (from nulls (placed_some rows) (at + 1) is))) (value_present row (placed rows) v e) rest

pub places_present : (nulls : Bool) (rows : List ℕ) (indices : List (Option ℕ)) → list_any is_none indices ≡ false → list_any is_none (map (λ (p : ℕ × Option ℕ). p.1) (taken_pairs nulls (placed_some rows) indices)) ≡ false
places_present nulls rows indices h = present_from nulls rows 0 indices h

-- ---- what is made of a plan

firsts_of : {A : Type 0} (ns : List ℕ) (xs : List A) → length xs ≡ length ns → firsts (zip ns xs) ≡ ns
firsts_of [] xs h = refl
firsts_of (n ∷ ns) [] h = absurd (omega arith)
firsts_of (n ∷ ns) (x ∷ xs) h = ap (λ (ms : List ℕ). n ∷ ms) (firsts_of ns xs (omega arith))

pub seconds_of : {A : Type 0} (ns : List ℕ) (xs : List A) → length xs ≡ length ns → map (λ (p : ℕ × A). p.1) (zip ns xs) ≡ xs
seconds_of [] [] h = refl
seconds_of [] (x ∷ xs) h = absurd (omega arith)
seconds_of (n ∷ ns) [] h = absurd (omega arith)
seconds_of {A} (n ∷ ns) (x ∷ xs) h = ap (λ (ys : List A). x ∷ ys) (seconds_of ns xs (omega arith))

made_of : (n : ℕ) (t : DType) (indices : List ℕ) (vs : List (Option Value)) → length vs ≡ length indices → 0 < length indices → Some (fresh n indices (flat t vs)) ≡ of_pairs n t (zip indices vs)
made_of n t [] vs h some = absurd (omega arith)
made_of n t (i ∷ is) [] h some = absurd (omega arith)
made_of n t (i ∷ is) (v ∷ vs) h some =
    ap (λ (ns : List ℕ). Some (fresh n ns (flat t (v ∷ vs)))) (sym (firsts_of (i ∷ is) (v ∷ vs) h))
    ∙ ap (λ (ws : List (Option Value)). Some (fresh n (firsts (zip (i ∷ is) (v ∷ vs))) (flat t ws))) (sym (seconds_of (i ∷ is) (v ∷ vs) h))

pub left_made : (left : Overlay) (n : ℕ) (maybe : Bool) (v w values : Flat) (indices is : List ℕ) (places ps : List (Option ℕ)) → left ≡ fresh n is values → is ≡ indices → ps ≡ places → w ≡ v →
    values ≡ flat (cond maybe (nullable w.dtype) (taken_type w.dtype ps)) (picked w.rows ps) → length places ≡ length indices → 0 < length ps →
    Some left ≡ of_pairs n (cond maybe (nullable v.dtype) (taken_type v.dtype places)) (zip indices (picked v.rows places))
left_made left n maybe v w values indices is places ps e ie pe we ve number some =
    ap Some e ∙ ap (λ (xs : List ℕ). Some (fresh n xs values)) ie
    ∙ ap (λ (f : Flat). Some (fresh n indices f)) (ve ∙ ap (λ (u : Flat). flat (cond maybe (nullable u.dtype) (taken_type u.dtype ps)) (picked u.rows ps)) we
    ∙ ap (λ (qs : List (Option ℕ)). flat (cond maybe (nullable v.dtype) (taken_type v.dtype qs)) (picked v.rows qs)) pe)
    ∙ made_of n (cond maybe (nullable v.dtype) (taken_type v.dtype places)) indices (picked v.rows places) (length-map places (picked_row v.rows) ∙ number) (omega (arith, ap length pe, number))

module _ (nulls : Bool) (rows : List ℕ) (indices : List (Option ℕ)) (plan : Taken) (is : plan ≡ taken_of (taken_pairs nulls (placed_some rows) indices)) where
  pub plan_number : length plan.places ≡ length plan.indices
  plan_number =
      let ps = taken_pairs nulls (placed_some rows) indices in
      subst (λ (t : Taken). length t.places ≡ length t.indices) (sym is) (length-map ps (λ (p : ℕ × Option ℕ). p.1) ∙ sym (length-map ps (λ (p : ℕ × Option ℕ). p.0)))

  pub plan_rises : IsStrictlyIncreasing plan.indices
  plan_rises = subst (λ (t : Taken). IsStrictlyIncreasing t.indices) (sym is) (positions_rise nulls (placed_some rows) indices)

  pub plan_below : (n : ℕ) → length indices ≡ n → All (λ k. k < n) plan.indices
  plan_below n e = subst (λ (t : Taken). All (λ k. k < n) t.indices) (sym is) (subst (λ (m : ℕ). All (λ k. k < m) (map (λ (p : ℕ × Option ℕ). p.0) (taken_pairs nulls (placed_some rows) indices))) e (positions_below nulls (placed_some rows) indices))

  pub plan_few : length plan.places ≤ length indices
  plan_few = subst (λ (t : Taken). length t.places ≤ length indices) (sym is) (as_few nulls (placed_some rows) indices)

pub plan_there : (nulls : Bool) (o : Overlay) → IsOverlay o → (indices : List (Option ℕ)) (plan : Taken) → plan ≡ taken_of (taken_pairs nulls (placed_some (rows_of o.index)) indices) → All (IsWithin (length o.values.rows)) plan.places
plan_there nulls o i indices plan is = subst (λ (t : Taken). All (IsWithin (length o.values.rows)) t.places) (sym is) (places_there nulls o i indices)

-- the type of the values
type_is : (t : DType) (may : Bool) (places : List (Option ℕ)) → (may ≡ false → list_any is_none places ≡ false) → cond may (nullable t) (taken_type t places) ≡ cond may (nullable t) t
type_is t true places h = refl
type_is t false places h = ap (λ (b : Bool). cond b (nullable t) t) (h refl)

-- the plan of a take column makes what the column takes
pub plan_takes : (nulls : Bool) (o : Overlay) → IsOverlay o → (column : Flat) (plan : Taken) (n : ℕ) (may : Bool) → rows_fit column.dtype column.rows ≡ true → names_rows column.dtype ≡ true →
    plan ≡ taken_of (taken_pairs nulls (placed_some (rows_of o.index)) (asked column.rows)) → n ≡ length column.rows → may ≡ is_nullable (nullability column.dtype) →
    of_pairs n (cond may (nullable o.values.dtype) (taken_type o.values.dtype plan.places)) (zip plan.indices (picked o.values.rows plan.places)) ≡ taken nulls o column
plan_takes nulls o i column plan n may fits names is long nullable_is =
    let t = o.values.dtype in
    let rows = rows_of o.index in
    let ps = taken_pairs nulls (placed_some rows) (asked column.rows) in
    let places = map (λ (p : ℕ × Option ℕ). p.1) ps in
    let type : cond may (nullable t) (taken_type t places) ≡ cond may (nullable t) t =
    type_is t may places (λ no. places_present nulls rows (asked column.rows) (all_present column.dtype column.rows fits names (sym nullable_is ∙ no))) in
    ap (λ (p : Taken). of_pairs n (cond may (nullable t) (taken_type t p.places)) (zip p.indices (picked o.values.rows p.places))) is
    ∙ ap (of_pairs n (cond may (nullable t) (taken_type t places))) (taken_made nulls o i (asked column.rows))
    ∙ ap (λ (d : DType). of_pairs n d (taken_pairs nulls (pairs_of o) (asked column.rows))) (type ∙ ap (λ (b : Bool). cond b (nullable t) t) nullable_is)
    ∙ ap (λ (m : ℕ). of_pairs m (cond (is_nullable (nullability column.dtype)) (nullable t) t) (taken_pairs nulls (pairs_of o) (asked column.rows))) long
