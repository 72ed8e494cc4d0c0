-- What a take names, index by index.
use Rattle.std.proofs.Common.{◌≡◌, ℕ, zero, suc, ◌+◌, ◌≤◌, ◌<◌, ◌≢◌, Bool, true, false, cond, nat_eq, List, [], ◌∷◌, ◌++◌, length, get_or, take, map, refl, sym, ◌∙◌, ap, arith}
use Rattle.std.specs.Prelude.{Option, Some, None, option_map}
use Rattle.std.specs.List.{filter_map, cons_option, enumerate_from}
use Rattle.std.proofs.lemmas.Bool.Decides.{nat_tests}
use Rattle.std.proofs.lemmas.List.{take_more, map-append, append-nil, take_all, length-take}
use Rattle.std.proofs.lemmas.List.Elements.{filter_map-append}
use Rattle.vx_search.specs.Places.{to_found}
use Rattle.vx_search.specs.declared.result.SearchResult.{SearchResult}
use Rattle.vx_search.specs.declared.result.SearchResult.TheVariants.{Found, NotFound}
use Rattle.vx_patches.specs.Places.{Index, IsIndex, rows_of}
use Rattle.vx_patches.specs.Pairs.{value_at}
use Rattle.vx_patches.specs.Search.{place_among}
use Rattle.vx_patches.proofs.Searches.{stands_at, stands_nowhere}
use Rattle.vx_patches.proofs.Columns.{rows_rise}
use Rattle.vx_patch_select.specs.declared.plan.Taken.{Taken}
use Rattle.vx_patch_select.specs.Selected.{named, taken_pairs}
use Rattle.vx_patch_select.specs.Plans.{placed_from, placed, placed_some, taken_of, IsTakenTo}

-- ---- looking a row up

eq_no : (x v : ℕ) → x ≢ v → nat_eq x v ≡ false
eq_no x v h = grind (arith, nat_tests)

eq_yes : (x v : ℕ) → x ≡ v → nat_eq x v ≡ true
eq_yes x v h = grind (arith, nat_tests)

placed_found : (at row : ℕ) (rows : List ℕ) (p : ℕ) → ((j : ℕ) → j < p → get_or rows j 0 ≢ row) → p < length rows → get_or rows p 0 ≡ row → value_at row (placed_from at rows) ≡ Some (at + p)
placed_found at row [] p h l e = absurd (omega arith)
placed_found at row (x ∷ xs) zero h l e =
    let same : at ≡ at + 0 = omega arith in
    ap (λ b. cond b (Some at) (value_at row (placed_from (at + 1) xs))) (eq_yes x row e) ∙ ap Some same
placed_found at row (x ∷ xs) (suc p) h l e =
    let same : at + 1 + p ≡ at + suc p = omega arith in
    ap (λ b. cond b (Some at) (value_at row (placed_from (at + 1) xs))) (eq_no x row (h 0 (omega arith)))
    ∙ placed_found (at + 1) row xs p (λ j k. h (suc j) (omega arith)) (omega arith) e ∙ ap Some same

pub placed_missing : (at row : ℕ) (rows : List ℕ) → ((j : ℕ) → j < length rows → get_or rows j 0 ≢ row) → value_at row (placed_from at rows) ≡ None
placed_missing at row [] h = refl
placed_missing at row (x ∷ xs) h =
    ap (λ b. cond b (Some at) (value_at row (placed_from (at + 1) xs))) (eq_no x row (h 0 (omega arith)))
    ∙ placed_missing (at + 1) row xs (λ j k. h (suc j) (omega arith))

place_is : (index : Index) → IsIndex index → (row : ℕ) (r : SearchResult) → r ≡ place_among (rows_of index) row → to_found r ≡ value_at row (placed (rows_of index))
place_is index i row (Found p) e =
    let rows = rows_of index in
    let at : (p < length rows) × (get_or rows p 0 ≡ row) = stands_at row rows (λ k h. rows_rise index i k (k + 1) (omega arith) h) p e in
    let same : 0 + p ≡ p = omega arith in
    sym (placed_found 0 row rows p (λ j l. omega (arith, rows_rise index i j p l at.0, at.1)) at.0 at.1 ∙ ap Some same)
place_is index i row (NotFound p) e = sym (placed_missing 0 row (rows_of index) (λ j l. stands_nowhere row (rows_of index) p e j l))

-- what a search finds, where the index is seen as one that is sound
pub place_found : (index : Index) → IsIndex index → (row : ℕ) (r : SearchResult) (found : Option ℕ) → r ≡ place_among (rows_of index) row → found ≡ to_found r → found ≡ value_at row (placed (rows_of index))
place_found index i row r found e f = f ∙ place_is index i row r e

-- a place that is there
pub value_some : (row : ℕ) (pairs : List (ℕ × ℕ)) → value_at row (map (λ (p : ℕ × ℕ). (p.0, Some p.1)) pairs) ≡ option_map (λ (n : ℕ). Some n) (value_at row pairs)
value_some row [] = refl
value_some row (p ∷ ps) = by (nat_eq p.0 row) (value_some row ps) where
  by : (b : Bool) → value_at row (map (λ (q : ℕ × ℕ). (q.0, Some q.1)) ps) ≡ option_map (λ (n : ℕ). Some n) (value_at row ps)
      → cond b (Some (Some p.1)) (value_at row (map (λ (q : ℕ × ℕ). (q.0, Some q.1)) ps)) ≡ option_map (λ (n : ℕ). Some n) (cond b (Some p.1) (value_at row ps))
  by true rest = refl
  by false rest = rest

pub named_found : (nulls : Bool) (rows : List ℕ) (row place : ℕ) → Some place ≡ value_at row (placed rows) → Some (Some place) ≡ named nulls (placed_some rows) (Some row)
named_found nulls rows row place e = ap (option_map (λ (n : ℕ). Some n)) e ∙ sym (value_some row (placed rows))

pub named_missing : (nulls : Bool) (rows : List ℕ) (row : ℕ) → None ≡ value_at row (placed rows) → None ≡ named nulls (placed_some rows) (Some row)
named_missing nulls rows row e = ap (option_map (λ (n : ℕ). Some n)) e ∙ sym (value_some row (placed rows))

-- ---- one index more

enumerate-push : {A : Type 0} (at : ℕ) (xs : List A) (x : A) → enumerate_from at (xs ++ x ∷ []) ≡ enumerate_from at xs ++ (at + length xs, x) ∷ []
enumerate-push at [] x = let e : at ≡ at + 0 = omega arith in ap (λ (n : ℕ). (n, x) ∷ []) e
enumerate-push {A} at (y ∷ ys) x =
    let e : at + 1 + length ys ≡ at + length (y ∷ ys) = omega arith in
    ap (λ (ps : List (ℕ × A)). (at, y) ∷ ps) (enumerate-push (at + 1) ys x ∙ ap (λ (n : ℕ). enumerate_from (at + 1) ys ++ (n, x) ∷ []) e)

module _ {A : Type 0} (nulls : Bool) (pairs : List (ℕ × Option A)) where
  abbrev entry : ℕ × Option ℕ → Option (ℕ × Option A)
  entry e = option_map (λ (v : Option A). (e.0, v)) (named nulls pairs e.1)

  taken_more : (indices : List (Option ℕ)) (i : ℕ) (index : Option ℕ) → i < length indices → index ≡ get_or indices i None →
      taken_pairs nulls pairs (take (i + 1) indices) ≡ taken_pairs nulls pairs (take i indices) ++ cons_option (option_map (λ (v : Option A). (i, v)) (named nulls pairs index)) []
  taken_more indices i index h e =
      let long : 0 + length (take i indices) ≡ i = omega (arith, length-take i indices) in
      ap (λ (xs : List (Option ℕ)). filter_map entry (enumerate_from 0 xs)) (take_more indices i None h)
      ∙ ap (filter_map entry) (enumerate-push 0 (take i indices) (get_or indices i None))
      ∙ filter_map-append entry (enumerate_from 0 (take i indices)) ((0 + length (take i indices), get_or indices i None) ∷ [])
      ∙ ap (λ (n : ℕ). filter_map entry (enumerate_from 0 (take i indices)) ++ filter_map entry ((n, get_or indices i None) ∷ [])) long
      ∙ ap (λ (x : Option ℕ). filter_map entry (enumerate_from 0 (take i indices)) ++ filter_map entry ((i, x) ∷ [])) (sym e)

  pub pairs_taken_yes : (indices : List (Option ℕ)) (i : ℕ) (index : Option ℕ) (v : Option A) → i < length indices → index ≡ get_or indices i None → Some v ≡ named nulls pairs index →
      taken_pairs nulls pairs (take (i + 1) indices) ≡ taken_pairs nulls pairs (take i indices) ++ (i, v) ∷ []
  pairs_taken_yes indices i index v h e n =
      taken_more indices i index h e
      ∙ ap (λ (o : Option (Option A)). taken_pairs nulls pairs (take i indices) ++ cons_option (option_map (λ (w : Option A). (i, w)) o) []) (sym n)

  pub pairs_taken_no : (indices : List (Option ℕ)) (i : ℕ) (index : Option ℕ) → i < length indices → index ≡ get_or indices i None → None ≡ named nulls pairs index →
      taken_pairs nulls pairs (take (i + 1) indices) ≡ taken_pairs nulls pairs (take i indices)
  pairs_taken_no indices i index h e n =
      taken_more indices i index h e
      ∙ ap (λ (o : Option (Option A)). taken_pairs nulls pairs (take i indices) ++ cons_option (option_map (λ (w : Option A). (i, w)) o) []) (sym n)
      ∙ append-nil (taken_pairs nulls pairs (take i indices))

pub taken_yes : (nulls : Bool) (rows : List ℕ) (indices : List (Option ℕ)) (i : ℕ) (index place : Option ℕ) (old new : Taken) → IsTakenTo nulls rows indices i old → i < length indices →
    index ≡ get_or indices i None → Some place ≡ named nulls (placed_some rows) index → new.places ≡ old.places ++ place ∷ [] → new.indices ≡ old.indices ++ i ∷ [] → IsTakenTo nulls rows indices (i + 1) new
taken_yes nulls rows indices i index place old new k h e n p q =
    let ps = taken_pairs nulls (placed_some rows) (take i indices) in
    let more = pairs_taken_yes nulls (placed_some rows) indices i index place h e n in
    record {
      places = p ∙ ap (λ (xs : List (Option ℕ)). xs ++ place ∷ []) k.places ∙ sym (map-append (λ (r : ℕ × Option ℕ). r.1) ps ((i, place) ∷ [])) ∙ sym (ap (map (λ (r : ℕ × Option ℕ). r.1)) more);
      indices = q ∙ ap (λ (xs : List ℕ). xs ++ i ∷ []) k.indices ∙ sym (map-append (λ (r : ℕ × Option ℕ). r.0) ps ((i, place) ∷ [])) ∙ sym (ap (map (λ (r : ℕ × Option ℕ). r.0)) more);
    }

pub taken_no : (nulls : Bool) (rows : List ℕ) (indices : List (Option ℕ)) (i : ℕ) (index : Option ℕ) (old : Taken) → IsTakenTo nulls rows indices i old → i < length indices →
    index ≡ get_or indices i None → None ≡ named nulls (placed_some rows) index → IsTakenTo nulls rows indices (i + 1) old
taken_no nulls rows indices i index old k h e n =
    let same = pairs_taken_no nulls (placed_some rows) indices i index h e n in
    record { places = k.places ∙ sym (ap (map (λ (r : ℕ × Option ℕ). r.1)) same); indices = k.indices ∙ sym (ap (map (λ (r : ℕ × Option ℕ). r.0)) same) }

pub taken_start : (nulls : Bool) (rows : List ℕ) (indices : List (Option ℕ)) (taken : Taken) → taken ≡ taken_of [] → IsTakenTo nulls rows indices 0 taken
taken_start nulls rows indices taken e = record { places = ap (λ (t : Taken). t.places) e; indices = ap (λ (t : Taken). t.indices) e }

made_taken : List (Option ℕ) → List ℕ → Taken
made_taken places indices = record { places = places; indices = indices }

pub taken_all : (nulls : Bool) (rows : List ℕ) (indices : List (Option ℕ)) (n : ℕ) (taken : Taken) → length indices ≤ n → IsTakenTo nulls rows indices n taken → taken ≡ taken_of (taken_pairs nulls (placed_some rows) indices)
unfolding made_taken
taken_all nulls rows indices n taken h k =
    let whole : take n indices ≡ indices = take_all n indices h in
    let pairs : List (Option ℕ) → List (ℕ × Option ℕ) = taken_pairs nulls (placed_some rows) in
    let places : taken.places ≡ map (λ (p : ℕ × Option ℕ). p.1) (pairs indices) = k.places ∙ ap (λ (xs : List (Option ℕ)). map (λ (p : ℕ × Option ℕ). p.1) (pairs xs)) whole in
    let numbers : taken.indices ≡ map (λ (p : ℕ × Option ℕ). p.0) (pairs indices) = k.indices ∙ ap (λ (xs : List (Option ℕ)). map (λ (p : ℕ × Option ℕ). p.0) (pairs xs)) whole in
    ap (λ (ps : List (Option ℕ)). made_taken ps taken.indices) places ∙ ap (made_taken (map (λ (p : ℕ × Option ℕ). p.1) (pairs indices))) numbers
