-- Exceptions that are laid over rows, and selections of both.
use Rattle.std.proofs.Common.{◌≡◌, ◌≢◌, ℕ, zero, suc, ◌+◌, ◌-◌, ◌≤◌, ◌<◌, inl, inr, Bool, true, false, cond, nat_eq, List, [], ◌∷◌, ◌++◌, length, get_or, set, take, drop, map, All, refl, sym, ◌∙◌, ap, subst, arith, append_assoc}
use Rattle.std.specs.Prelude.{Option, Some, None, option_map}
use Rattle.std.specs.List.{filter, filter_map, cons_option, enumerate_from, slice_range}
use Rattle.std.proofs.Math.Seq.{take-set-lt}
use Rattle.std.proofs.lemmas.Bool.{cases_Bool, cases_lt}
use Rattle.std.proofs.lemmas.Bool.Decides.{nat_tests}
use Rattle.std.proofs.lemmas.List.{take-set-le, drop-set-lt, drop-set-add, get_or-set_same, get_or-set_other, length-set, set_at, length-append}
use Rattle.std.proofs.lemmas.List.Sums.{sum_by-cons}
use Rattle.std.proofs.lemmas.Slice.Zip.{firsts-zip}
use Rattle.vx_rows.specs.declared.value.Value.{Value}
use Rattle.vx_bulk.specs.Selections.{kept, picked, picked_row, overlaid, IsWithin}
use Rattle.vx_patches.specs.Places.{rows_of}
use Rattle.vx_patches.specs.Slices.{lies_inside}
use Rattle.vx_patches.specs.Pairs.{Overlay, pairs_of, pairs_inside, firsts, value_at}
use Rattle.vx_patches.proofs.Counts.{Rising, tail}
use Rattle.vx_patches.proofs.Insides.{pairs_yes, pairs_no}
use Rattle.vx_patches.proofs.Columns.{rows_number, rows_rise}
use Rattle.vx_patch_select.specs.Selected.{bit_at, rank, kept_pairs, named}
use Rattle.vx_patch_select.specs.Patched.{pairs_left}
use Rattle.vx_patch_select.specs.Laws.{laid, SliceCommutes, FilterCommutes, TakeCommutes}

laid_pairs : (rows : List (Option Value)) (left : Option Overlay) → laid rows left ≡ overlaid rows (pairs_left left)
laid_pairs rows None = refl
laid_pairs rows (Some o) = refl

-- ---- filters

both_nil : {A : Type 0} (t : Bool) → cond {A = List A} t [] [] ≡ []
both_nil true = refl
both_nil false = refl

one_in : {A : Type 0} (t : Bool) (x : A) (n : ℕ) (v : A) (xs : List A) → cond t (set (x ∷ xs) (suc n) v) (x ∷ xs) ≡ x ∷ cond t (set xs n v) xs
one_in true x n v xs = refl
one_in false x n v xs = refl

kept_set : {A : Type 0} (rows : List A) (bits : List Bool) (r : ℕ) (v : A) → kept (set rows r v) bits ≡ cond (bit_at bits r) (set (kept rows bits) (rank bits r) v) (kept rows bits)
kept_set [] bits r v = sym (both_nil (bit_at bits r))
kept_set (x ∷ xs) [] zero v = refl
kept_set (x ∷ xs) [] (suc r) v = refl
kept_set (x ∷ xs) (true ∷ bits) zero v = refl
kept_set (x ∷ xs) (false ∷ bits) zero v = refl
kept_set {A} (x ∷ xs) (true ∷ bits) (suc r) v =
    let more : rank (true ∷ bits) (suc r) ≡ suc (rank bits r) = omega (arith, sum_by-cons (λ (b : Bool). cond b 1 0) true (take r bits)) in
    ap (λ (ys : List A). x ∷ ys) (kept_set xs bits r v) ∙ sym (one_in (bit_at bits r) x (rank bits r) v (kept xs bits))
    ∙ ap (λ (n : ℕ). cond (bit_at bits r) (set (x ∷ kept xs bits) n v) (x ∷ kept xs bits)) (sym more)
kept_set {A} (x ∷ xs) (false ∷ bits) (suc r) v =
    let same : rank (false ∷ bits) (suc r) ≡ rank bits r = omega (arith, sum_by-cons (λ (b : Bool). cond b 1 0) false (take r bits)) in
    kept_set xs bits r v ∙ ap (λ (n : ℕ). cond (bit_at bits r) (set (kept xs bits) n v) (kept xs bits)) (sym same)

kept_laid : {A : Type 0} (bits : List Bool) (pairs : List (ℕ × A)) (rows : List A) → overlaid (kept rows bits) (kept_pairs bits pairs) ≡ kept (overlaid rows pairs) bits
kept_laid bits [] rows = refl
kept_laid {A} bits (p ∷ ps) rows =
    by (bit_at bits p.0) ∙ ap (λ (xs : List A). overlaid xs (kept_pairs bits ps)) (sym (kept_set rows bits p.0 p.1)) ∙ kept_laid bits ps (set rows p.0 p.1) where
      by : (t : Bool) → overlaid (kept rows bits) (map (λ (q : ℕ × A). (rank bits q.0, q.1)) (cond t (p ∷ filter (λ (q : ℕ × A). bit_at bits q.0) ps) (filter (λ (q : ℕ × A). bit_at bits q.0) ps)))
          ≡ overlaid (cond t (set (kept rows bits) (rank bits p.0) p.1) (kept rows bits)) (kept_pairs bits ps)
      by true = refl
      by false = refl

pub filter_commutes : FilterCommutes
filter_commutes rows o bits left e = laid_pairs (kept rows bits) left ∙ ap (overlaid (kept rows bits)) e ∙ kept_laid bits (pairs_of o) rows

-- ---- slices

inside_is : (s e r : ℕ) → lies_inside s e r ≡ true → (s ≤ r) × (r < e)
inside_is s e r h = (grind (arith, nat_tests), grind (arith, nat_tests))

outside_is : (s e r : ℕ) → lies_inside s e r ≡ false → s ≤ r → e ≤ r
outside_is s e r h l = grind (arith, nat_tests)

slice_yes : {A : Type 0} (rows : List A) (s e r : ℕ) (v : A) → s ≤ r → r < e → slice_range (set rows r v) s e ≡ set (slice_range rows s e) (r - s) v
slice_yes {A} rows s e r v low high =
    let split : r ≡ s + (r - s) = omega arith in
    ap (take (e - s)) (ap (λ (n : ℕ). drop s (set rows n v)) split ∙ drop-set-add s rows (r - s) v) ∙ take-set-lt (e - s) (drop s rows) (r - s) v (omega arith)

slice_no : {A : Type 0} (rows : List A) (s e r : ℕ) (v : A) → lies_inside s e r ≡ false → slice_range (set rows r v) s e ≡ slice_range rows s e
slice_no {A} rows s e r v h = elim (cases_lt r s) as (λ _. slice_range (set rows r v) s e ≡ slice_range rows s e) [
  | inl before ↦ ap (take (e - s)) (drop-set-lt s rows r v before)
  | inr after ↦
      let split : r ≡ s + (r - s) = omega arith in
      ap (take (e - s)) (ap (λ (n : ℕ). drop s (set rows n v)) split ∙ drop-set-add s rows (r - s) v) ∙ take-set-le (e - s) (drop s rows) (r - s) v (omega (arith, outside_is s e r h after))
]

slice_laid : {A : Type 0} (s e : ℕ) (pairs : List (ℕ × A)) (rows : List A) → overlaid (slice_range rows s e) (pairs_inside s e pairs) ≡ slice_range (overlaid rows pairs) s e
slice_laid s e [] rows = refl
slice_laid {A} s e (p ∷ ps) rows =
    let rest = slice_laid s e ps (set rows p.0 p.1) in
    elim (cases_Bool (lies_inside s e p.0)) as (λ _. overlaid (slice_range rows s e) (pairs_inside s e (p ∷ ps)) ≡ slice_range (overlaid (set rows p.0 p.1) ps) s e) [
      | inl is_in ↦
          let ends = inside_is s e p.0 is_in in
          ap (overlaid (slice_range rows s e)) (pairs_yes s e p ps is_in) ∙ ap (λ (xs : List A). overlaid xs (pairs_inside s e ps)) (sym (slice_yes rows s e p.0 p.1 ends.0 ends.1)) ∙ rest
      | inr is_out ↦
          ap (overlaid (slice_range rows s e)) (pairs_no s e p ps is_out) ∙ ap (λ (xs : List A). overlaid xs (pairs_inside s e ps)) (sym (slice_no rows s e p.0 p.1 is_out)) ∙ rest
    ]

pub slice_commutes : SliceCommutes
slice_commutes rows o start end left e = laid_pairs (slice_range rows start end) left ∙ ap (overlaid (slice_range rows start end)) e ∙ slice_laid start end (pairs_of o) rows

-- ---- takes

laid_other : {A : Type 0} (r : ℕ) (d : A) (pairs : List (ℕ × A)) (rows : List A) → ((k : ℕ) → k < length (firsts pairs) → get_or (firsts pairs) k 0 ≢ r) → get_or (overlaid rows pairs) r d ≡ get_or rows r d
laid_other r d [] rows h = refl
laid_other r d (p ∷ ps) rows h =
    laid_other r d ps (set rows p.0 p.1) (λ k l. h (suc k) (omega arith)) ∙ get_or-set_other rows p.0 r p.1 d (λ same. h 0 (omega arith) (sym same))

eq_is : (m n : ℕ) → nat_eq m n ≡ true → m ≡ n
eq_is m n h = grind (arith, nat_tests)

eq_not : (m n : ℕ) → nat_eq m n ≡ false → m ≢ n
eq_not m n h = grind (arith, nat_tests)

-- the row that a pair names is the pair's, and each other row stays
abbrev IsLaid : {A : Type 0} → Option A → A → A → Type 0
IsLaid None old new = new ≡ old
IsLaid (Some v) old new = new ≡ v

laid_at : {A : Type 0} (r : ℕ) (d : A) (pairs : List (ℕ × A)) (rows : List A) → Rising (firsts pairs) → r < length rows → IsLaid (value_at r pairs) (get_or rows r d) (get_or (overlaid rows pairs) r d)
laid_at r d [] rows rising h = refl
laid_at {A} r d (p ∷ ps) rows rising h =
    let more = laid_at r d ps (set rows p.0 p.1) (tail p.0 (firsts ps) rising) (omega (arith, length-set rows p.0 p.1)) in
    let new = get_or (overlaid (set rows p.0 p.1) ps) r d in
    elim (cases_Bool (nat_eq p.0 r)) as (λ _. IsLaid (cond (nat_eq p.0 r) (Some p.1) (value_at r ps)) (get_or rows r d) new) [
      | inl hit ↦
          let same : p.0 ≡ r = eq_is p.0 r hit in
          let apart : (k : ℕ) → k < length (firsts ps) → get_or (firsts ps) k 0 ≢ r = λ k l. omega (arith, rising 0 (suc k) (omega arith) (omega arith)) in
          subst (λ (t : Bool). IsLaid (cond t (Some p.1) (value_at r ps)) (get_or rows r d) new) (sym hit)
          (laid_other r d ps (set rows p.0 p.1) apart ∙ ap (λ (n : ℕ). get_or (set rows n p.1) r d) same ∙ get_or-set_same rows r p.1 d h)
      | inr miss ↦
          subst (λ (t : Bool). IsLaid (cond t (Some p.1) (value_at r ps)) (get_or rows r d) new) (sym miss)
          (subst (λ (x : A). IsLaid (value_at r ps) x new) (get_or-set_other rows p.0 r p.1 d (λ same. eq_not p.0 r miss (sym same))) more)
    ]

module _ {A : Type 0} (nulls : Bool) (pairs : List (ℕ × Option A)) (rows : List (Option A)) (rising : Rising (firsts pairs)) where
  abbrev entry : ℕ × Option ℕ → Option (ℕ × Option A)
  entry e = option_map (λ (v : Option A). (e.0, v)) (named nulls pairs e.1)

  absent_is : (t : Bool) → IsLaid (cond {A = Option (Option A)} t (Some None) None) None None
  absent_is true = refl
  absent_is false = refl

  -- what an index names is the row that it picks, and else it picks the row that was there
  named_is : (index : Option ℕ) → IsWithin (length rows) index → IsLaid (named nulls pairs index) (picked_row rows index) (picked_row (overlaid rows pairs) index)
  named_is None h = absent_is nulls
  named_is (Some r) h = laid_at r None pairs rows rising h

  take_step : (o : Option (Option A)) (front : List (Option A)) (at : ℕ) (old new : Option A) (xs ys : List (Option A)) (rest : List (ℕ × Option A)) → length front ≡ at → IsLaid o old new →
      ((now : Option A) → overlaid ((front ++ now ∷ []) ++ xs) rest ≡ (front ++ now ∷ []) ++ ys) →
      overlaid (front ++ old ∷ xs) (cons_option (option_map (λ (v : Option A). (at, v)) o) rest) ≡ front ++ new ∷ ys
  take_step None front at old new xs ys rest long is more =
      ap (λ (zs : List (Option A)). overlaid zs rest) (sym (append_assoc front (old ∷ []) xs)) ∙ more old ∙ append_assoc front (old ∷ []) ys ∙ ap (λ (x : Option A). front ++ x ∷ ys) (sym is)
  take_step (Some v) front at old new xs ys rest long is more =
      ap (λ (zs : List (Option A)). overlaid zs rest) (set_at front old xs v at long ∙ sym (append_assoc front (v ∷ []) xs)) ∙ more v ∙ append_assoc front (v ∷ []) ys ∙ ap (λ (x : Option A). front ++ x ∷ ys) (sym is)

  take_laid : (indices : List (Option ℕ)) (front : List (Option A)) (at : ℕ) → length front ≡ at → All (IsWithin (length rows)) indices →
      overlaid (front ++ picked rows indices) (filter_map entry (enumerate_from at indices)) ≡ front ++ picked (overlaid rows pairs) indices
  take_laid [] front at long h = refl
  take_laid (i ∷ is) front at long h =
      take_step (named nulls pairs i) front at (picked_row rows i) (picked_row (overlaid rows pairs) i) (picked rows is) (picked (overlaid rows pairs) is) (filter_map entry (enumerate_from (at + 1) is)) long
      (named_is i (h 0 None (omega arith)))
      (λ now. take_laid is (front ++ now ∷ []) (at + 1) (omega (arith, length-append front (now ∷ []))) (λ k d l. h (suc k) d (omega arith)))

pub take_commutes : TakeCommutes
take_commutes rows o nulls indices left i within e =
    let keys : firsts (pairs_of o) ≡ rows_of o.index = firsts-zip (rows_of o.index) o.values.rows (i.values ∙ sym (rows_number o.index)) in
    let rising : Rising (firsts (pairs_of o)) = subst Rising (sym keys) (rows_rise o.index i.index) in
    laid_pairs (picked rows indices) left ∙ ap (overlaid (picked rows indices)) e ∙ take_laid nulls (pairs_of o) rows rising indices [] 0 refl within
