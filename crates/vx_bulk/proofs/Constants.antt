-- Selections of one row that is repeated.
use Rattle.std.proofs.Common.{ℕ, zero, suc, ◌≡◌, ◌<◌, ◌≤◌, ◌+◌, ◌-◌, ◌∙◌, ap, sym, refl, subst, arith, Bool, true, false, cond, ◌||◌, List, [], ◌∷◌, ◌++◌, length, get_or, take, drop, replicate, Option, Some, None}
use Rattle.std.specs.Option.{is_none, is_some}
use Rattle.std.specs.List.{All, list_any, slice_range, sum_by, count_by}
use Rattle.std.proofs.lemmas.Bool.{false≢true}
use Rattle.std.proofs.lemmas.List.{get_or-replicate, take-replicate, drop-replicate, length-replicate, replicate-append-replicate}
use Rattle.std.proofs.lemmas.List.Elements.{All-head, All-tail}
use Rattle.std.proofs.lemmas.List.Sums.{sum_by-cons}
use Rattle.vx_masks.specs.Bits.{kept, count_true}
use Rattle.vx_masks.specs.Masks.{bits_of}
use Rattle.vx_masks.specs.declared.mask.Mask.{Mask}
use Rattle.vx_masks.specs.declared.mask.Mask.TheVariants.{AllTrue, AllFalse}
use Rattle.vx_bulk.specs.Selections.{picked_row, picked, picked_at, joined_runs, IsWithin, IsInside}
use Rattle.vx_bulk.proofs.Picks.{run_of_none}

module _ {A : Type 0} (row : Option A) (n : ℕ) where
  same_at : (i : ℕ) → i < length (replicate n row) → get_or (replicate n row) i None ≡ row
  same_at i h = get_or-replicate n i row None (omega (arith, length-replicate n row))

  picked_at_of : (places : List ℕ) → All (λ place. place < length (replicate n row)) places → picked_at (replicate n row) places ≡ replicate (length places) row
  picked_at_of [] all = refl
  picked_at_of (place ∷ places) all =
      let here = All-head (λ (place : ℕ). place < length (replicate n row)) place places all in
      let rest = All-tail (λ (place : ℕ). place < length (replicate n row)) place places all in
      λ i. same_at place here i ∷ picked_at_of places rest i

  picked_of : (places : List (Option ℕ)) → All (IsWithin (length (replicate n row))) places → list_any is_none places ≡ false → picked (replicate n row) places ≡ replicate (length places) row
  picked_of [] all present = refl
  picked_of (None ∷ places) all present = absurd (false≢true (sym present))
  picked_of (Some place ∷ places) all present =
      let here = All-head (IsWithin (length (replicate n row))) (Some place) places all in
      let rest = All-tail (IsWithin (length (replicate n row))) (Some place) places all in
      λ i. same_at place here i ∷ picked_of places rest present i

  range_of : (a count : ℕ) → IsInside (length (replicate n row)) (a, count) → slice_range (replicate n row) a (a + count) ≡ replicate count row
  range_of a zero inside = run_of_none (replicate n row) a
  range_of a (suc k) inside =
      let within : a + suc k ≤ n = omega (arith, inside (omega arith), length-replicate n row) in
      let e : a + suc k - a ≡ suc k = omega arith in
      ap (λ m. take m (drop a (replicate n row))) e ∙ ap (take (suc k)) (drop-replicate a n row) ∙ take-replicate (suc k) (n - a) row (omega arith)

  runs_of : (runs : List (ℕ × ℕ)) → All (IsInside (length (replicate n row))) runs → joined_runs (replicate n row) runs ≡ replicate (sum_by (λ run. run.1) runs) row
  runs_of [] all = refl
  runs_of (run ∷ runs) all =
      let here = All-head (IsInside (length (replicate n row))) run runs all in
      let rest = All-tail (IsInside (length (replicate n row))) run runs all in
      (λ i. range_of run.0 run.1 here i ++ runs_of runs rest i)
      ∙ replicate-append-replicate run.1 (sum_by (λ (r : ℕ × ℕ). r.1) runs) row
      ∙ ap (λ m. replicate m row) (sym (sum_by-cons (λ (r : ℕ × ℕ). r.1) run runs))

kept_of : {A : Type 0} (row : A) (n : ℕ) (bits : List Bool) → length bits ≡ n → kept (replicate n row) bits ≡ replicate (count_true bits) row
kept_of row zero [] h = refl
kept_of row zero (b ∷ bits) h = absurd (omega arith)
kept_of row (suc n) [] h = absurd (omega arith)
kept_of row (suc n) (true ∷ bits) h =
    let e : suc (count_true bits) ≡ count_true (true ∷ bits) = omega (arith, sum_by-cons (λ (b : Bool). cond b 1 0) true bits) in
    ap (λ rs. row ∷ rs) (kept_of row n bits (omega arith)) ∙ ap (λ m. replicate m row) e
kept_of row (suc n) (false ∷ bits) h =
    let e : count_true bits ≡ count_true (false ∷ bits) = omega (arith, sum_by-cons (λ (b : Bool). cond b 1 0) false bits) in
    kept_of row n bits (omega arith) ∙ ap (λ m. replicate m row) e

kept_true : {A : Type 0} (rows : List A) → kept rows (replicate (length rows) true) ≡ rows
kept_true [] = refl
kept_true (row ∷ rows) = ap (λ rs. row ∷ rs) (kept_true rows)

kept_false : {A : Type 0} (rows : List A) (n : ℕ) → kept rows (replicate n false) ≡ []
kept_false [] n = refl
kept_false (row ∷ rows) zero = refl
kept_false (row ∷ rows) (suc n) = kept_false rows n

-- the rows of bits that are all true, or none of them
pub kept_all : {A : Type 0} (rows : List A) (mask : Mask) (len : ℕ) → mask ≡ AllTrue len → length (bits_of mask) ≡ length rows → kept rows (bits_of mask) ≡ rows
kept_all rows mask len e =
    subst (λ (m : Mask). length (bits_of m) ≡ length rows → kept rows (bits_of m) ≡ rows) (sym e)
    (λ h. ap (λ (n : ℕ). kept rows (replicate n true)) (sym (length-replicate len true) ∙ h) ∙ kept_true rows)

pub kept_none : {A : Type 0} (rows : List A) (mask : Mask) (len : ℕ) → mask ≡ AllFalse len → kept rows (bits_of mask) ≡ []
kept_none rows mask len e = ap (λ (m : Mask). kept rows (bits_of m)) e ∙ kept_false rows len

-- the same of rows that are one row repeated
module _ {A : Type 0} (rows : List (Option A)) (row : Option A) (same : rows ≡ replicate (length rows) row) where
  pub picked_at_same : (places : List ℕ) → All (λ place. place < length rows) places → picked_at rows places ≡ replicate (length places) row
  picked_at_same places all =
      ap (λ rs. picked_at rs places) same ∙ picked_at_of row (length rows) places (subst (λ (rs : List (Option A)). All (λ place. place < length rs) places) same all)

  pub picked_same : (places : List (Option ℕ)) → All (IsWithin (length rows)) places → list_any is_none places ≡ false → picked rows places ≡ replicate (length places) row
  picked_same places all present =
      ap (λ rs. picked rs places) same ∙ picked_of row (length rows) places (subst (λ (rs : List (Option A)). All (IsWithin (length rs)) places) same all) present

  pub runs_same : (runs : List (ℕ × ℕ)) → All (IsInside (length rows)) runs → joined_runs rows runs ≡ replicate (sum_by (λ run. run.1) runs) row
  runs_same runs all =
      ap (λ rs. joined_runs rs runs) same ∙ runs_of row (length rows) runs (subst (λ (rs : List (Option A)). All (IsInside (length rs)) runs) same all)

  pub front_same : (count : ℕ) → count ≤ length rows → slice_range rows 0 count ≡ replicate count row
  front_same count h =
      let e : 0 + count ≡ count = omega arith in
      let inside : IsInside (length (replicate (length rows) row)) (0, count) = λ _. omega (arith, length-replicate (length rows) row) in
      ap (λ rs. slice_range rs 0 count) same ∙ ap (slice_range (replicate (length rows) row) 0) (sym e) ∙ range_of row (length rows) 0 count inside

  pub kept_same : (bits : List Bool) → length bits ≡ length rows → kept rows bits ≡ replicate (count_true bits) row
  kept_same bits h = ap (λ rs. kept rs bits) same ∙ kept_of row (length rows) bits h

-- all places are counted where none is absent
pub all_counted : {A : Type 0} (places : List (Option A)) → list_any is_none places ≡ false → count_by is_some places ≡ length places
all_counted [] h = refl
all_counted (None ∷ places) h = absurd (false≢true (sym h))
all_counted {A = A} (Some place ∷ places) h = omega (arith, sum_by-cons (λ (p : Option A). cond (is_some p) 1 0) (Some place) places, all_counted places h)

-- a place, or a run that isn't empty, is of some row
pub some_by_places : (n : ℕ) (places : List ℕ) → All (λ place. place < n) places → 0 < length places → 0 < n
some_by_places n [] all h = absurd (omega arith)
some_by_places n (place ∷ places) all h = omega (arith, All-head (λ (place : ℕ). place < n) place places all)

pub some_by_present : (n : ℕ) (places : List (Option ℕ)) → All (IsWithin n) places → list_any is_none places ≡ false → 0 < length places → 0 < n
some_by_present n [] all present h = absurd (omega arith)
some_by_present n (None ∷ places) all present h = absurd (false≢true (sym present))
some_by_present n (Some place ∷ places) all present h = let here : place < n = All-head (IsWithin n) (Some place) places all in omega arith

pub some_by_runs : (n : ℕ) (runs : List (ℕ × ℕ)) → All (IsInside n) runs → 0 < sum_by (λ run. run.1) runs → 0 < n
some_by_runs n [] all h = absurd (omega arith)
some_by_runs n ((a, zero) ∷ runs) all h =
    some_by_runs n runs (All-tail (IsInside n) (a, zero) runs all) (omega (arith, sum_by-cons (λ (r : ℕ × ℕ). r.1) (a, zero) runs))
some_by_runs n ((a, suc k) ∷ runs) all h = let here = All-head (IsInside n) (a, suc k) runs all (omega arith) in omega arith
