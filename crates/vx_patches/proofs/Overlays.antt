-- What exceptions mean, as values of another's view.
use Rattle.std.proofs.Common.{◌≡◌, ℕ, zero, suc, ◌+◌, ◌-◌, ◌≤◌, ◌<◌, ◌≢◌, inl, inr, cond, nat_eq, Bool, true, false, List, [], ◌∷◌, length, get_or, refl, sym, ◌∙◌, ap, subst, arith}
use Rattle.std.specs.Prelude.{Some, None}
use Rattle.std.specs.List.{zip, slice_range}
use Rattle.std.specs.List.Sorted.{IsStrictlyIncreasing}
use Rattle.std.proofs.lemmas.Bool.{cases_Bool}
use Rattle.std.proofs.lemmas.Bool.Decides.{nat_tests}
use Rattle.std.proofs.lemmas.List.{length-map}
use Rattle.std.proofs.lemmas.Slice.Zip.{firsts-zip}
use Rattle.vx_base.specs.Column.{Flat}
use Rattle.vx_search.specs.declared.result.SearchResult.TheVariants.{Found, NotFound}
use Rattle.vx_patches.specs.Places.{Index, indices_of, rows_of}
use Rattle.vx_patches.specs.Search.{place_among}
use Rattle.vx_patches.specs.Slices.{IsSliceOf, lies_inside, rows_inside, place_of, part_of, window}
use Rattle.vx_patches.specs.Pairs.{Overlay, IsOverlay, overlay, pairs_by, pairs_of, pairs_inside, firsts, value_at, IsPart}
use Rattle.vx_patches.proofs.Counts.{Rising, length-slice, count-le-length}
use Rattle.vx_patches.proofs.Insides.{pairs_yes, pairs_no, rows_yes, rows_no}
use Rattle.vx_patches.proofs.Searches.{stands_at, stands_nowhere}
use Rattle.vx_patches.proofs.Slices.{rising_rows, slice_numbers, whole_part, whole_window}
use Rattle.vx_patches.proofs.Pairs.{pairs_kept}

-- the rows of the pairs inside
pub firsts_inside : {A : Type 0} (s e : ℕ) (ps : List (ℕ × A)) → firsts (pairs_inside s e ps) ≡ rows_inside s e (firsts ps)
firsts_inside s e [] = refl
firsts_inside {A} s e (p ∷ ps) = elim (cases_Bool (lies_inside s e p.0)) as (λ _. firsts (pairs_inside s e (p ∷ ps)) ≡ rows_inside s e (firsts (p ∷ ps))) [
  | inl yes_in ↦ ap firsts (pairs_yes s e p ps yes_in) ∙ ap (λ (ns : List ℕ). (p.0 - s) ∷ ns) (firsts_inside s e ps) ∙ sym (rows_yes s e p.0 (firsts ps) yes_in)
  | inr not_in ↦ ap firsts (pairs_no s e p ps not_in) ∙ firsts_inside s e ps ∙ sym (rows_no s e p.0 (firsts ps) not_in)
]

pub no_pairs : {A : Type 0} (ps : List (ℕ × A)) → firsts ps ≡ [] → ps ≡ []
no_pairs [] e = refl
no_pairs (p ∷ ps) e = absurd (omega (arith, ap length e))

pub value_found : {A : Type 0} (ns : List ℕ) (vs : List A) (row p : ℕ) (d : A) → length vs ≡ length ns → ((j : ℕ) → j < p → get_or ns j 0 ≢ row) → p < length ns → get_or ns p 0 ≡ row →
    value_at row (zip ns vs) ≡ Some (get_or vs p d)
value_found [] vs row p d long before h e = absurd (omega arith)
value_found (n ∷ ns) [] row p d long before h e = absurd (omega arith)
value_found (n ∷ ns) (v ∷ vs) row zero d long before h e =
    let here : nat_eq n row ≡ true = grind (arith, nat_tests) in
    ap (λ (b : Bool). cond b (Some v) (value_at row (zip ns vs))) here
value_found (n ∷ ns) (v ∷ vs) row (suc p) d long before h e =
    let apart : n ≢ row = before 0 (omega arith) in
    let there : nat_eq n row ≡ false = grind (arith, nat_tests) in
    ap (λ (b : Bool). cond b (Some v) (value_at row (zip ns vs))) there ∙ value_found ns vs row p d (omega arith) (λ j l. before (suc j) (omega arith)) (omega arith) e

pub value_missing : {A : Type 0} (ns : List ℕ) (vs : List A) (row : ℕ) → ((j : ℕ) → j < length ns → get_or ns j 0 ≢ row) → value_at row (zip ns vs) ≡ None
value_missing [] vs row none = refl
value_missing (n ∷ ns) [] row none = refl
value_missing (n ∷ ns) (v ∷ vs) row none =
    let apart : n ≢ row = none 0 (omega arith) in
    let there : nat_eq n row ≡ false = grind (arith, nat_tests) in
    ap (λ (b : Bool). cond b (Some v) (value_at row (zip ns vs))) there ∙ value_missing ns vs row (λ j l. none (suc j) (omega arith))

module _ (o now : Overlay) (v : o ≡ now) (i : IsOverlay o) where
  pub rows_are : firsts (pairs_of o) ≡ rows_of o.index
  rows_are = firsts-zip (rows_of o.index) o.values.rows (i.values ∙ sym (length-map (indices_of o.index) (λ n. n - o.index.offset)))

  pub rows_now : rows_of o.index ≡ firsts (pairs_of now)
  rows_now = sym rows_are ∙ ap (λ (n : Overlay). firsts (pairs_of n)) v

  pub count_now : length (indices_of o.index) ≡ length (pairs_of now)
  count_now = sym (length-map (indices_of o.index) (λ n. n - o.index.offset)) ∙ ap length rows_now ∙ length-map (pairs_of now) (λ p. p.0)

  rising : Rising (rows_of o.index)
  rising = rising_rows o.index.offset (indices_of o.index) i.index.rising i.index.above

  increasing : IsStrictlyIncreasing (rows_of o.index)
  increasing = λ k h. rising k (k + 1) (omega arith) h

  pub found_inside : (row p : ℕ) → Found p ≡ place_among (firsts (pairs_of now)) row → p < length o.values.rows
  found_inside row p e =
      let at = stands_at row (rows_of o.index) increasing p (e ∙ ap (λ (ns : List ℕ). place_among ns row) (sym rows_now)) in
      omega (arith, at.0, i.values, length-map (indices_of o.index) (λ (n : ℕ). n - o.index.offset))

  pub found_value : (row p : ℕ) → Found p ≡ place_among (firsts (pairs_of now)) row → Some (get_or o.values.rows p None) ≡ value_at row (pairs_of now)
  found_value row p e =
      let at = stands_at row (rows_of o.index) increasing p (e ∙ ap (λ (ns : List ℕ). place_among ns row) (sym rows_now)) in
      sym (value_found (rows_of o.index) o.values.rows row p None (i.values ∙ sym (length-map (indices_of o.index) (λ n. n - o.index.offset)))
      (λ j l. omega (arith, rising j p l at.0, at.1)) at.0 at.1) ∙ ap (λ (n : Overlay). value_at row (pairs_of n)) v

  pub missing_value : (row p : ℕ) → NotFound p ≡ place_among (firsts (pairs_of now)) row → None ≡ value_at row (pairs_of now)
  missing_value row p e =
      sym (value_missing (rows_of o.index) o.values.rows row (stands_nowhere row (rows_of o.index) p (e ∙ ap (λ (ns : List ℕ). place_among ns row) (sym rows_now)))) ∙ ap (λ (n : Overlay). value_at row (pairs_of n)) v

  pub none_inside : (s e : ℕ) → rows_inside s e (rows_of o.index) ≡ [] → pairs_inside s e (pairs_of now) ≡ []
  none_inside s e h = no_pairs (pairs_inside s e (pairs_of now)) (firsts_inside s e (pairs_of now) ∙ ap (rows_inside s e) (sym rows_now) ∙ h)

  pub part_seen : (s e p q : ℕ) (part : Index) (vs : Flat) → s ≤ e → IsSliceOf o.index part s e p q → vs ≡ window o.values p q → IsPart now s e (Some (overlay part vs))
  part_seen s e p q part vs h sl f =
      let numbers : indices_of part ≡ slice_range (indices_of o.index) p q = ap indices_of sl.is ∙ slice_numbers o.index.indices.rows p q in
      let top : q ≤ length (rows_of o.index) = omega (arith, sl.to, count-le-length e (rows_of o.index)) in
      let rows : length (rows_of o.index) ≡ length (indices_of o.index) = length-map (indices_of o.index) (λ (n : ℕ). n - o.index.offset) in
      let mine : length (slice_range (indices_of o.index) p q) ≡ q - p = length-slice (indices_of o.index) p q (omega arith) in
      let theirs : length (slice_range o.values.rows p q) ≡ q - p = length-slice o.values.rows p q (omega (arith, i.values)) in
      let made : IsPart o s e (Some (overlay part vs)) = (
        ap (λ (c : Flat). pairs_by part c.rows) f ∙ pairs_kept o.index part s e p q i.index sl h o.values.rows i.values,
        record { index = sl.sound; values = ap (λ (c : Flat). length c.rows) f ∙ theirs ∙ sym mine ∙ sym (ap length numbers) },
        ap (λ (n : Index). overlay n vs) sl.is ∙ ap (overlay (part_of o.index s e p q)) f
            ∙ ap (λ (a : ℕ). overlay (part_of o.index s e a q) (window o.values a q)) sl.from
            ∙ ap (λ (b : ℕ). overlay (part_of o.index s e (place_of s (rows_of o.index)) b) (window o.values (place_of s (rows_of o.index)) b)) sl.to,
      ) in
      subst (λ (n : Overlay). IsPart n s e (Some (overlay part vs))) v made

  pub all_seen : (s e p q : ℕ) (part : Index) (vs : Flat) → IsSliceOf o.index part s e p q → vs ≡ window o.values p q → s ≡ 0 → e ≡ now.index.len → overlay part vs ≡ now
  all_seen s e p q part vs sl f a b =
      let length_is : e ≡ o.index.len = b ∙ sym (ap (λ (n : Overlay). n.index.len) v) in
      let w = whole_part o.index i.index s e p q a length_is sl.from sl.to in
      ap (λ (n : Index). overlay n vs) (sl.is ∙ w.0) ∙ ap (overlay o.index) (f ∙ whole_window o.values p q w.1 (w.2 ∙ sym i.values)) ∙ v
