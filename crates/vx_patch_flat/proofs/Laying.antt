-- Rows laid down one exception after another.
use Rattle.std.proofs.Common.{ℕ, zero, suc, ◌≡◌, ◌<◌, ◌≤◌, ◌+◌, ◌-◌, ◌∙◌, ap, sym, refl, arith, Bool, true, ◌&&◌, List, [], ◌∷◌, ◌++◌, length, get_or, set, take, drop, append_assoc, length-append}
use Rattle.std.specs.List.{list_all, slice_range, zip}
use Rattle.std.proofs.lemmas.Bool.{and_parts}
use Rattle.std.proofs.lemmas.List.{take_more, take-append-drop, drop-drop, length-take-le, length-drop, set-append_right}
use Rattle.std.proofs.Math.Seq.{set-append_seam}
use Rattle.vx_bulk.specs.Selections.{overlaid}

cons_at : {A : Type 0} (xs : List A) (i : ℕ) (d : A) → i < length xs → drop i xs ≡ get_or xs i d ∷ drop (i + 1) xs
cons_at [] i d h = absurd (omega arith)
cons_at (x ∷ xs) zero d h = refl
cons_at (x ∷ xs) (suc i) d h = let next : suc i + 1 ≡ suc (i + 1) = omega arith in cons_at xs i d (omega arith) ∙ ap (λ (k : ℕ). get_or xs i d ∷ drop k (x ∷ xs)) (sym next)

-- the rest of a list from a place: what stands up to another place, the element there, and the rest behind
rest_from : {A : Type 0} (xs : List A) (from row : ℕ) (d : A) → from ≤ row → row < length xs → drop from xs ≡ slice_range xs from row ++ get_or xs row d ∷ drop (row + 1) xs
rest_from {A} xs from row d o h =
    let there : from + (row - from) ≡ row = omega arith in
    let behind : drop (row - from) (drop from xs) ≡ drop row xs = drop-drop (row - from) from xs ∙ ap (λ (k : ℕ). drop k xs) there in
    sym (take-append-drop (row - from) (drop from xs)) ∙ ap (λ (ys : List A). slice_range xs from row ++ ys) (behind ∙ cons_at xs row d h)

pub length_range : {A : Type 0} (xs : List A) (from to : ℕ) → from ≤ to → to ≤ length xs → length (slice_range xs from to) ≡ to - from
length_range xs from to o h = length-take-le (to - from) (drop from xs) (omega (arith, length-drop from xs))

-- one element is written over, where what stands before it is laid already
set_rest : {A : Type 0} (out xs : List A) (from row : ℕ) (v : A) → length out ≡ from → from ≤ row → row < length xs →
    set (out ++ drop from xs) row v ≡ (out ++ (slice_range xs from row ++ v ∷ [])) ++ drop (row + 1) xs
set_rest {A} out xs from row v long o h =
    let part = slice_range xs from row in
    let rest = drop (row + 1) xs in
    let size : length part ≡ row - from = length_range xs from row o (omega arith) in
    set-append_right out (drop from xs) from row v long o
    ∙ ap (λ (ys : List A). out ++ set ys (row - from) v) (rest_from xs from row v o h)
    ∙ ap (λ (k : ℕ). out ++ set (part ++ get_or xs row v ∷ rest) k v) (sym size)
    ∙ ap (λ (ys : List A). out ++ ys) (set-append_seam part (get_or xs row v) rest v)
    ∙ sym (append_assoc out (part ++ v ∷ []) rest ∙ ap (λ (ys : List A). out ++ ys) (append_assoc part (v ∷ []) rest))

pub overlaid_push : {A : Type 0} (xs : List A) (ps : List (ℕ × A)) (p : ℕ × A) → overlaid xs (ps ++ p ∷ []) ≡ set (overlaid xs ps) p.0 p.1
overlaid_push xs [] p = refl
overlaid_push xs (q ∷ ps) p = overlaid_push (set xs q.0 q.1) ps p

-- one exception more
pub laid_next : {A : Type 0} (xs out new : List A) (ps : List (ℕ × A)) (place from row : ℕ) (v : A) → out ++ drop from xs ≡ overlaid xs (take place ps) → length out ≡ from → from ≤ row → row < length xs →
    place < length ps → get_or ps place (row, v) ≡ (row, v) → new ≡ out ++ (slice_range xs from row ++ v ∷ []) → new ++ drop (row + 1) xs ≡ overlaid xs (take (place + 1) ps)
laid_next {A} xs out new ps place from row v so long o h inside here is =
    ap (λ (ys : List A). ys ++ drop (row + 1) xs) is
    ∙ sym (set_rest out xs from row v long o h)
    ∙ ap (λ (ys : List A). set ys row v) so
    ∙ sym (overlaid_push xs (take place ps) (row, v))
    ∙ ap (λ (q : ℕ × A). overlaid xs (take place ps ++ q ∷ [])) (sym here)
    ∙ ap (overlaid xs) (sym (take_more ps place (row, v) inside))

pub laid_long : {A : Type 0} (xs out new : List A) (from row : ℕ) (v : A) → length out ≡ from → from ≤ row → row < length xs → new ≡ out ++ (slice_range xs from row ++ v ∷ []) → length new ≡ row + 1
laid_long xs out new from row v long o h is =
    omega (arith, ap length is, length-append out (slice_range xs from row ++ v ∷ []), length-append (slice_range xs from row) (v ∷ []), length_range xs from row o (omega arith))

one_row : {A : Type 0} (xs : List A) (i : ℕ) (d : A) → i < length xs → slice_range xs i (i + 1) ≡ get_or xs i d ∷ []
one_row xs i d h =
    let one : i + 1 - i ≡ 1 = omega arith in
    ap (λ (n : ℕ). take n (drop i xs)) one ∙ ap (take 1) (cons_at xs i d h)

-- rows, and one exception behind them
pub laid_one : {A : Type 0} (rows mid new base values : List A) (from row place : ℕ) (d : A) → mid ≡ rows ++ slice_range base from row → new ≡ mid ++ slice_range values place (place + 1) → place < length values →
    new ≡ rows ++ (slice_range base from row ++ get_or values place d ∷ [])
laid_one {A} rows mid new base values from row place d front back h =
    back
    ∙ ap (λ (ys : List A). mid ++ ys) (one_row values place d h)
    ∙ ap (λ (ys : List A). ys ++ get_or values place d ∷ []) front
    ∙ append_assoc rows (slice_range base from row) (get_or values place d ∷ [])

-- ---- what holds of each element

module _ {A : Type 0} (p : A → Bool) where
  all_set : (xs : List A) (i : ℕ) (v : A) → list_all p xs ≡ true → p v ≡ true → list_all p (set xs i v) ≡ true
  all_set [] i v h k = refl
  all_set (x ∷ xs) zero v h k = λ j. k j && (and_parts (p x) (list_all p xs) h).1 j
  all_set (x ∷ xs) (suc i) v h k = λ j. (and_parts (p x) (list_all p xs) h).0 j && all_set xs i v (and_parts (p x) (list_all p xs) h).1 k j

  pub all_overlaid : (xs : List A) (ps : List (ℕ × A)) → list_all p xs ≡ true → list_all (λ q. p q.1) ps ≡ true → list_all p (overlaid xs ps) ≡ true
  all_overlaid xs [] h k = h
  all_overlaid xs (q ∷ ps) h k =
      let both = and_parts (p q.1) (list_all (λ r. p r.1) ps) k in
      all_overlaid (set xs q.0 q.1) ps (all_set xs q.0 q.1 h both.0) both.1

  pub all_zip : (ns : List ℕ) (vs : List A) → list_all p vs ≡ true → list_all (λ q. p q.1) (zip ns vs) ≡ true
  all_zip [] vs h = refl
  all_zip (n ∷ ns) [] h = refl
  all_zip (n ∷ ns) (v ∷ vs) h = λ j. (and_parts (p v) (list_all p vs) h).0 j && all_zip ns vs (and_parts (p v) (list_all p vs) h).1 j
