-- Selections, one element more at a time.
use Rattle.std.proofs.Common.{ℕ, zero, suc, ◌≡◌, ◌<◌, ◌≤◌, ◌+◌, ◌-◌, ◌∙◌, ap, sym, refl, arith, Bool, true, false, cond, List, [], ◌∷◌, ◌++◌, length, get_or, take, drop, map, Option, Some, None, append_assoc}
use Rattle.std.specs.List.{slice_range, flat_map}
use Rattle.std.proofs.lemmas.List.{take_more, take_all, map-append, append-nil, get_or-drop, length-drop, length-take-le}
use Rattle.std.proofs.lemmas.Grind.{flat_map-append}
use Rattle.vx_buffers.proofs.Rows.{range_more}
use Rattle.std.proofs.lemmas.List.Sums.{sum_by_more}
use Rattle.vx_masks.specs.Bits.{kept, count_true}
use Rattle.vx_bulk.specs.Selections.{picked_row, picked, picked_at, joined_runs, masked}

-- a map of one element more
map_more : {A B : Type 0} (f : A → B) (xs : List A) (i : ℕ) (d : A) → i < length xs → map f (take (i + 1) xs) ≡ map f (take i xs) ++ f (get_or xs i d) ∷ []
map_more f xs i d h = ap (map f) (take_more xs i d h) ∙ map-append f (take i xs) (get_or xs i d ∷ [])

pub picked_at_more : {A : Type 0} (rows : List (Option A)) (places : List ℕ) (i d : ℕ) → i < length places →
    picked_at rows (take (i + 1) places) ≡ picked_at rows (take i places) ++ get_or rows (get_or places i d) None ∷ []
picked_at_more rows places i d h = map_more (λ (place : ℕ). get_or rows place None) places i d h

pub picked_more : {A : Type 0} (rows : List (Option A)) (places : List (Option ℕ)) (i : ℕ) (d : Option ℕ) → i < length places →
    picked rows (take (i + 1) places) ≡ picked rows (take i places) ++ picked_row rows (get_or places i d) ∷ []
picked_more rows places i d h = map_more (picked_row rows) places i d h

-- lists joined, one more
pub joined_more : {A B : Type 0} (f : A → List B) (xs : List A) (i : ℕ) (d : A) → i < length xs → flat_map f (take (i + 1) xs) ≡ flat_map f (take i xs) ++ f (get_or xs i d)
joined_more f xs i d h =
    ap (flat_map f) (take_more xs i d h) ∙ flat_map-append f (take i xs) (get_or xs i d ∷ []) ∙ ap (λ ys. flat_map f (take i xs) ++ ys) (append-nil (f (get_or xs i d)))

pub joined_runs_more : {A : Type 0} (rows : List A) (runs : List (ℕ × ℕ)) (i : ℕ) (d : ℕ × ℕ) → i < length runs →
    joined_runs rows (take (i + 1) runs) ≡ joined_runs rows (take i runs) ++ slice_range rows (get_or runs i d).0 ((get_or runs i d).0 + (get_or runs i d).1)
joined_runs_more rows runs i d h = joined_more (λ (run : ℕ × ℕ). slice_range rows run.0 (run.0 + run.1)) runs i d h

-- a range of one row, and of none
pub range_of_one : {A : Type 0} (rows : List A) (i : ℕ) (d : A) → i < length rows → slice_range rows i (i + 1) ≡ get_or rows i d ∷ []
range_of_one rows i d h =
    let e : i + 1 - i ≡ 0 + 1 = omega arith in
    let f : i + 0 ≡ i = omega arith in
    ap (λ n. take n (drop i rows)) e ∙ take_more (drop i rows) 0 d (omega (arith, length-drop i rows)) ∙ ap (λ r. r ∷ []) (get_or-drop i rows 0 d ∙ ap (λ n. get_or rows n d) f)

pub range_of_none : {A : Type 0} (rows : List A) (i : ℕ) → slice_range rows i i ≡ []
range_of_none rows i = let e : i - i ≡ 0 = omega arith in ap (λ n. take n (drop i rows)) e

pub run_of_none : {A : Type 0} (rows : List A) (i : ℕ) → slice_range rows i (i + 0) ≡ []
run_of_none rows i = let e : i + 0 ≡ i = omega arith in ap (slice_range rows i) e ∙ range_of_none rows i

-- rows that are kept, and one more
kept_push : {A : Type 0} (xs : List A) (bs : List Bool) (x : A) (b : Bool) → length xs ≡ length bs → kept (xs ++ x ∷ []) (bs ++ b ∷ []) ≡ kept xs bs ++ cond b (x ∷ []) []
kept_push [] [] x b h = refl
kept_push [] (c ∷ bs) x b h = absurd (omega arith)
kept_push (y ∷ xs) [] x b h = absurd (omega arith)
kept_push (y ∷ xs) (true ∷ bs) x b h = ap (λ r. y ∷ r) (kept_push xs bs x b (omega arith))
kept_push (y ∷ xs) (false ∷ bs) x b h = kept_push xs bs x b (omega arith)

masked_push : {A : Type 0} (xs : List (Option A)) (bs : List Bool) (x : Option A) (b : Bool) → length xs ≡ length bs → masked (xs ++ x ∷ []) (bs ++ b ∷ []) ≡ masked xs bs ++ cond b x None ∷ []
masked_push [] [] x b h = refl
masked_push [] (c ∷ bs) x b h = absurd (omega arith)
masked_push (y ∷ xs) [] x b h = absurd (omega arith)
masked_push (y ∷ xs) (c ∷ bs) x b h = ap (λ r. cond c y None ∷ r) (masked_push xs bs x b (omega arith))

module _ {A : Type 0} (rows : List (Option A)) (bits : List Bool) (i : ℕ) (b d : Bool) (in_rows : i < length rows) (in_bits : i < length bits) (at : b ≡ get_or bits i d) where
  fronts : length (take i rows) ≡ length (take i bits)
  fronts = omega (arith, length-take-le i rows (omega arith), length-take-le i bits (omega arith))

  bits_more : take (i + 1) bits ≡ take i bits ++ b ∷ []
  bits_more = take_more bits i d in_bits ∙ ap (λ c. take i bits ++ c ∷ []) (sym at)

  pub kept_more : kept (take (i + 1) rows) (take (i + 1) bits) ≡ kept (take i rows) (take i bits) ++ cond b (get_or rows i None ∷ []) []
  kept_more = (λ k. kept (take_more rows i None in_rows k) (bits_more k)) ∙ kept_push (take i rows) (take i bits) (get_or rows i None) b fronts

  pub masked_more : masked (take (i + 1) rows) (take (i + 1) bits) ≡ masked (take i rows) (take i bits) ++ cond b (get_or rows i None) None ∷ []
  masked_more = (λ k. masked (take_more rows i None in_rows k) (bits_more k)) ∙ masked_push (take i rows) (take i bits) (get_or rows i None) b fronts

-- one bit more, behind rows that were kept or masked so far
pub kept_step : {A : Type 0} (rows : List (Option A)) (bits : List Bool) (i : ℕ) (b d : Bool) (now before : List (Option A)) → i < length rows → i < length bits →
    now ≡ before ++ cond b (get_or rows i None ∷ []) [] → before ≡ kept (take i rows) (take i bits) → b ≡ get_or bits i d → now ≡ kept (take (i + 1) rows) (take (i + 1) bits)
kept_step rows bits i b d now before in_rows in_bits e so_far at =
    e ∙ ap (λ rs. rs ++ cond b (get_or rows i None ∷ []) []) so_far ∙ sym (kept_more rows bits i b d in_rows in_bits at)

pub masked_step : {A : Type 0} (rows : List (Option A)) (bits : List Bool) (i : ℕ) (b d : Bool) (now before : List (Option A)) → i < length rows → i < length bits →
    now ≡ before ++ cond b (get_or rows i None) None ∷ [] → before ≡ masked (take i rows) (take i bits) → b ≡ get_or bits i d → now ≡ masked (take (i + 1) rows) (take (i + 1) bits)
masked_step rows bits i b d now before in_rows in_bits e so_far at =
    e ∙ ap (λ rs. rs ++ cond b (get_or rows i None) None ∷ []) so_far ∙ sym (masked_more rows bits i b d in_rows in_bits at)

pub count_more : (bits : List Bool) (i : ℕ) (b d : Bool) → i < length bits → b ≡ get_or bits i d → count_true (take (i + 1) bits) ≡ count_true (take i bits) + cond b 1 0
count_more bits i b d h at = sum_by_more (λ (c : Bool). cond c 1 0) bits i d h ∙ ap (λ (c : Bool). count_true (take i bits) + cond c 1 0) (sym at)

-- rows so far and a run behind them: the run is one row longer, or was appended
pub run_longer : {A : Type 0} (out rows : List A) (a i : ℕ) (d : A) → a ≤ i → i < length rows → out ++ slice_range rows a (i + 1) ≡ (out ++ slice_range rows a i) ++ get_or rows i d ∷ []
run_longer out rows a i d order inside = ap (λ r. out ++ r) (range_more rows a i d order inside) ∙ sym (append_assoc out (slice_range rows a i) (get_or rows i d ∷ []))

pub run_appended : {A : Type 0} (out out' rows more : List A) (i : ℕ) → out' ≡ out ++ more → out' ++ slice_range rows i i ≡ out ++ more
run_appended out out' rows more i e = ap (λ r. out' ++ r) (range_of_none rows i) ∙ append-nil out' ∙ e
