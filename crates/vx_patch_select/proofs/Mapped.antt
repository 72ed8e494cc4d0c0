-- A map of places, place by place.
use Rattle.std.proofs.lemmas.Bool.Decides.{nat_tests}
use Rattle.std.proofs.Common.{ℕ, ◌≡◌, ◌∙◌, ◌<◌, ◌≤◌, ◌+◌, ◌++◌, sym, ap, refl, subst, arith, length, get_or, take, nat_eq, cond, Bool, true, false, List, [], ◌∷◌, Option, Some, None}
use Rattle.std.specs.Option.{is_some}
use Rattle.std.proofs.lemmas.Bool.{false≢true}
use Rattle.std.proofs.lemmas.List.{take_all, length-take-le, get_or-take}
use Rattle.std.specs.HashMap.{HashMap, get}
use Rattle.std.specs.Map.{lookup}
use Rattle.std.proofs.lemmas.List.{length-map}
use Rattle.std.proofs.lemmas.Slice.Zip.{firsts-zip}
use Rattle.vx_rows.specs.declared.value.Value.{Value}
use Rattle.vx_patches.specs.Places.{rows_of}
use Rattle.vx_patches.specs.Pairs.{Overlay, IsOverlay, pairs_of, firsts, value_at}
use Rattle.vx_patches.proofs.Columns.{rows_number}
use Rattle.vx_patches.proofs.Counts.{Rising}
use Rattle.vx_patch_select.specs.Plans.{placed}
use Rattle.vx_patch_select.specs.Maps.{FindsPlaces}
use Rattle.vx_patch_select.proofs.Keeping.{placed_more}
use Rattle.vx_patch_select.proofs.Taking.{placed_missing}

none_found : (b : Bool) (x : ℕ) (o : Option ℕ) → cond b (Some x) o ≡ None → (b ≡ false) × (o ≡ None)
none_found true x o h = absurd (false≢true (sym (ap is_some h)))
none_found false x o h = (refl, h)

apart : (p q row : ℕ) → nat_eq p q ≡ true → nat_eq p row ≡ false → nat_eq row q ≡ false
apart p q row e f = grind (arith, nat_tests)

-- a pair behind others whose rows are others
value_last : (q row place : ℕ) (ps : List (ℕ × ℕ)) → value_at row ps ≡ None → value_at q (ps ++ (row, place) ∷ []) ≡ cond (nat_eq row q) (Some place) (value_at q ps)
value_last q row place [] h = refl
value_last q row place (p ∷ ps) h = by (nat_eq p.0 q) refl (value_last q row place ps none.1) where
  none : (nat_eq p.0 row ≡ false) × (value_at row ps ≡ None)
  none = none_found (nat_eq p.0 row) p.1 (value_at row ps) h

  by : (b : Bool) → nat_eq p.0 q ≡ b → value_at q (ps ++ (row, place) ∷ []) ≡ cond (nat_eq row q) (Some place) (value_at q ps) →
      cond b (Some p.1) (value_at q (ps ++ (row, place) ∷ [])) ≡ cond (nat_eq row q) (Some place) (cond b (Some p.1) (value_at q ps))
  by true e rest = ap (λ (c : Bool). cond c (Some place) (Some p.1)) (sym (apart p.0 q row e none.0))
  by false e rest = rest

-- the rows before a place are others
rows_before : (rows : List ℕ) (i : ℕ) → Rising rows → i < length rows → value_at (get_or rows i 0) (placed (take i rows)) ≡ None
rows_before rows i rising h =
    placed_missing 0 (get_or rows i 0) (take i rows)
    (λ j k same. omega (arith, length-take-le i rows (omega arith), get_or-take i rows j 0 (omega (arith, length-take-le i rows (omega arith))), rising j i (omega (arith, length-take-le i rows (omega arith))) h))

-- the first so many places stand in the map
abbrev pub FindsTo : {S : Type 0} → List ℕ → ℕ → HashMap ℕ ℕ S → Type 0
FindsTo rows count map = FindsPlaces (take count rows) map

pub finds_none : {S : Type 0} (rows : List ℕ) (map : HashMap ℕ ℕ S) → map.entries ≡ [] → FindsTo rows 0 map
finds_none rows map e = λ q. ap (λ (es : List (ℕ × ℕ)). lookup (nat_eq q) es) e

pub finds_more : {S : Type 0} (rows : List ℕ) (i row : ℕ) (old new : HashMap ℕ ℕ S) → Rising rows → i < length rows → row ≡ get_or rows i 0 → FindsTo rows i old →
    ((q : ℕ) → get nat_eq new q ≡ cond (nat_eq row q) (Some i) (get nat_eq old q)) → FindsTo rows (i + 1) new
finds_more rows i row old new rising h e before put = λ q.
    put q ∙ ap (λ (o : Option ℕ). cond (nat_eq row q) (Some i) o) (before q)
    ∙ sym (ap (value_at q) (placed_more rows i row h e) ∙ value_last q row i (placed (take i rows)) (ap (λ (n : ℕ). value_at n (placed (take i rows))) e ∙ rows_before rows i rising h))

pub finds_all : {S : Type 0} (rows : List ℕ) (n : ℕ) (map : HashMap ℕ ℕ S) → length rows ≤ n → FindsTo rows n map → FindsPlaces rows map
finds_all rows n map h finds = subst (λ (xs : List ℕ). FindsPlaces xs map) (take_all n rows h) finds

-- the rows of the pairs, and how many there are
pub rows_named : (o : Overlay) → IsOverlay o → firsts (pairs_of o) ≡ rows_of o.index
rows_named o i = firsts-zip (rows_of o.index) o.values.rows (i.values ∙ sym (rows_number o.index))

pub pairs_number : (o : Overlay) → IsOverlay o → length (pairs_of o) ≡ length (rows_of o.index)
pairs_number o i = sym (length-map (pairs_of o) (λ (p : ℕ × Option Value). p.0)) ∙ ap length (rows_named o i)
