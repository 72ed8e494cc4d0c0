-- Rows of places, of indices and of runs.
use Rattle.std.proofs.Common.{arith, refl, sym, ◌∙◌, ap, subst, ◌≡◌, ◌<◌, ◌+◌, ◌-◌, ◌≤◌, ℕ, zero, suc, Bool, true, false, cond, List, [], ◌∷◌, ◌++◌, map, length, get_or, take, drop, Option, Some, None, is_none, is_some, ◌⊎◌, inl, inr, append_assoc, append-nil, length-append}
use Rattle.std.proofs.lemmas.Bool.{false≢true}
use Rattle.std.proofs.lemmas.List.{take_more, map-append, get_or-map, get_or_default}
use Rattle.std.proofs.lemmas.List.Sums.{sum_by-cons}
use Rattle.std.specs.Option.{unwrap_or}
use Rattle.vx_rows.specs.declared.error.ColumnError.{ColumnError}
use Rattle.vx_rows.specs.declared.error.ColumnError.TheVariants.{OutOfMemory}
use Rattle.std.proofs.lemmas.List.Elements.{All-append}
use Rattle.std.proofs.lemmas.List.FromFn.{length-range_with_len, get_or-range_with_len}
use Rattle.std.specs.List.{All, range_with_len, slice_range, list_any}
use Rattle.vx_rows.specs.declared.value.Value.{Value}
use Rattle.vx_masks.specs.Bits.{count_true, places_from, places_of, kept}
use Rattle.vx_job.specs.Rows.{Rows, picked as rows_at}
use Rattle.vx_select.specs.Spots.{AreBelow}
use Rattle.vx_bulk.specs.Selections.{picked, picked_row, joined_runs, IsWithin, IsInside}
use Rattle.vx_job.specs.Selections.{run_total, IsBeyond}
use Rattle.vx_select.specs.Causes.{present, run_places, TakeCause}
use Rattle.vx_select.proofs.Ranges.{picked_range}

-- ---- masks

places_long : (at : ℕ) (bits : List Bool) → length (places_from at bits) ≡ count_true bits
places_long at [] = refl
places_long at (true ∷ bits) = let one : count_true (true ∷ bits) ≡ 1 + count_true bits = sum_by-cons (λ (b : Bool). cond b 1 0) true bits in omega (arith, one, places_long (at + 1) bits)
places_long at (false ∷ bits) = let none : count_true (false ∷ bits) ≡ count_true bits = refl in omega (arith, none, places_long (at + 1) bits)

pub places_many : (bits : List Bool) → length (places_of bits) ≡ count_true bits
places_many bits = places_long 0 bits

below_from : (at n : ℕ) (bits : List Bool) → at + length bits ≤ n → AreBelow n (places_from at bits)
below_from at n [] h = λ i d l. absurd (omega arith)
below_from at n (true ∷ bits) h = All-append (λ p. p < n) (at ∷ []) (places_from (at + 1) bits) (one at (omega arith)) (below_from (at + 1) n bits (omega arith))
  where
    one : (p : ℕ) → p < n → All (λ q. q < n) (p ∷ [])
    one p less zero d l = less
    one p less (suc i) d l = absurd (omega arith)
below_from at n (false ∷ bits) h = below_from (at + 1) n bits (omega arith)

-- the places of bits are below their number
pub places_below : (n : ℕ) (bits : List Bool) → length bits ≡ n → AreBelow n (places_of bits)
places_below n bits e = below_from 0 n bits (omega arith)

kept_from : (front rows : Rows) (bits : List Bool) (n : ℕ) → length front ≡ n → length bits ≡ length rows → rows_at (front ++ rows) (places_from n bits) ≡ kept rows bits
kept_from front [] [] n f h = refl
kept_from front (row ∷ rows) [] n f h = absurd (omega arith)
kept_from front [] (b ∷ bits) n f h = absurd (omega arith)
kept_from front (row ∷ rows) (b ∷ bits) n f h =
    let long : length (front ++ row ∷ []) ≡ n + 1 = omega (arith, f, length-append front (row ∷ [])) in
    by_bit b (subst (λ (all : Rows). rows_at all (places_from (n + 1) bits) ≡ kept rows bits) (append_assoc front (row ∷ []) rows) (kept_from (front ++ row ∷ []) rows bits (n + 1) long (omega arith)))
  where
    here : (front : Rows) (k : ℕ) → length front ≡ k → get_or (front ++ row ∷ rows) k None ≡ row
    here [] zero e = refl
    here [] (suc k) e = absurd (omega arith)
    here (r ∷ front) zero e = absurd (omega arith)
    here (r ∷ front) (suc k) e = here front k (omega arith)

    by_bit : (b : Bool) → rows_at (front ++ row ∷ rows) (places_from (n + 1) bits) ≡ kept rows bits →
        rows_at (front ++ row ∷ rows) (cond b (n ∷ places_from (n + 1) bits) (places_from (n + 1) bits)) ≡ cond b (row ∷ kept rows bits) (kept rows bits)
    by_bit true e = ap (λ (rs : Rows). get_or (front ++ row ∷ rows) n None ∷ rs) e ∙ ap (λ (r : Option Value). r ∷ kept rows bits) (here front n f)
    by_bit false e = e

-- the rows at the places of bits are those whose bit is true
pub kept_rows : (rows : Rows) (bits : List Bool) → length bits ≡ length rows → rows_at rows (places_of bits) ≡ kept rows bits
kept_rows rows bits h = kept_from [] rows bits 0 refl h

-- ---- indices

present-append : (xs ys : List (Option ℕ)) → present (xs ++ ys) ≡ present xs ++ present ys
present-append [] ys = refl
present-append (None ∷ xs) ys = present-append xs ys
present-append (Some x ∷ xs) ys = ap (λ (ns : List ℕ). x ∷ ns) (present-append xs ys)

pub present_next : (indices : List (Option ℕ)) (i : ℕ) (o d : Option ℕ) → i < length indices → get_or indices i d ≡ o → present (take (i + 1) indices) ≡ present (take i indices) ++ present (o ∷ [])
present_next indices i o d h e =
    ap present (take_more indices i d h ∙ ap (λ x. take i indices ++ x ∷ []) e) ∙ present-append (take i indices) (o ∷ [])

pub present_below : (n : ℕ) (indices : List (Option ℕ)) → All (IsWithin n) indices → AreBelow n (present indices)
present_below n [] all = λ i d h. absurd (omega arith)
present_below n (None ∷ indices) all = present_below n indices (λ k d h. all (suc k) d (omega arith))
present_below n (Some p ∷ indices) all =
    All-append (λ q. q < n) (p ∷ []) (present indices) (one p (all 0 None (omega arith))) (present_below n indices (λ k d h. all (suc k) d (omega arith)))
  where
    one : (q : ℕ) → q < n → All (λ x. x < n) (q ∷ [])
    one q less zero d l = less
    one q less (suc i) d l = absurd (omega arith)

pub present_few : (indices : List (Option ℕ)) → length (present indices) ≤ length indices
present_few [] = omega arith
present_few (None ∷ indices) = omega (arith, present_few indices)
present_few (Some p ∷ indices) = omega (arith, present_few indices)

-- what stands at an index that is there
present_at : (indices : List (Option ℕ)) (i p : ℕ) → i < length indices → get_or indices i None ≡ Some p → get_or (present indices) (length (present (take i indices))) 0 ≡ p
present_at [] i p h e = absurd (omega arith)
present_at (None ∷ indices) zero p h e = absurd (false≢true (ap is_some e))
present_at (Some q ∷ indices) zero p h e = ap (λ (o : Option ℕ). unwrap_or o 0) e
present_at (None ∷ indices) (suc i) p h e = present_at indices i p (omega arith) e
present_at (Some q ∷ indices) (suc i) p h e = present_at indices i p (omega arith) e

pub present_inside : (indices : List (Option ℕ)) (i : ℕ) → i < length indices → is_some (get_or indices i None) ≡ true → length (present (take i indices)) < length (present indices)
present_inside [] i h e = absurd (omega arith)
present_inside (None ∷ indices) zero h e = absurd (false≢true e)
present_inside (Some q ∷ indices) zero h e = omega arith
present_inside (None ∷ indices) (suc i) h e = present_inside indices i (omega arith) e
present_inside (Some q ∷ indices) (suc i) h e = omega (arith, present_inside indices i (omega arith) e)

pub present_more : (indices : List (Option ℕ)) (i : ℕ) → i < length indices → is_some (get_or indices i None) ≡ true → length (present (take (i + 1) indices)) ≡ length (present (take i indices)) + 1
present_more indices i h e =
    ap length (present_next indices i (get_or indices i None) None h refl) ∙ length-append (present (take i indices)) (present (get_or indices i None ∷ []))
    ∙ ap (λ n. length (present (take i indices)) + n) (one (get_or indices i None) e)
  where
    one : (o : Option ℕ) → is_some o ≡ true → length (present (o ∷ [])) ≡ 1
    one None f = absurd (false≢true f)
    one (Some p) f = refl

pub present_same : (indices : List (Option ℕ)) (i : ℕ) → i < length indices → is_some (get_or indices i None) ≡ false → length (present (take (i + 1) indices)) ≡ length (present (take i indices))
present_same indices i h e =
    ap length (present_next indices i (get_or indices i None) None h refl) ∙ length-append (present (take i indices)) (present (get_or indices i None ∷ []))
    ∙ ap (λ n. length (present (take i indices)) + n) (none (get_or indices i None) e) ∙ omega arith
  where
    none : (o : Option ℕ) → is_some o ≡ false → length (present (o ∷ [])) ≡ 0
    none None f = refl
    none (Some p) f = absurd (false≢true (sym f))

picked_more : (all : Rows) (indices : List (Option ℕ)) (i : ℕ) → i < length indices → picked all (take (i + 1) indices) ≡ picked all (take i indices) ++ picked_row all (get_or indices i None) ∷ []
picked_more all indices i h = ap (picked all) (take_more indices i None h) ∙ map-append (picked_row all) (take i indices) (get_or indices i None ∷ [])

-- the next of the rows that are there stands at the next index that is there
pub spread_row : (all rows : Rows) (indices : List (Option ℕ)) (i next : ℕ) (out : Rows) → i < length indices → is_some (get_or indices i None) ≡ true → next ≡ length (present (take i indices)) →
    rows ≡ rows_at all (present indices) → out ≡ picked all (take i indices) → out ++ get_or rows next None ∷ [] ≡ picked all (take (i + 1) indices)
spread_row all rows indices i next out h some n e before =
    ap (λ (rs : Rows). rs ++ get_or rows next None ∷ []) before ∙ ap (λ (r : Option Value). picked all (take i indices) ++ r ∷ []) (here (get_or indices i None) refl some)
    ∙ sym (picked_more all indices i h)
  where
    here : (o : Option ℕ) → get_or indices i None ≡ o → is_some o ≡ true → get_or rows next None ≡ picked_row all (get_or indices i None)
    here None f g = absurd (false≢true g)
    here (Some p) f g =
        let inside : next < length (present indices) = omega (arith, n, present_inside indices i h some) in
        ap (λ (rs : Rows). get_or rs next None) e ∙ get_or-map (λ k. get_or all k None) (present indices) next 0 None inside
        ∙ ap (λ k. get_or all k None) (ap (λ k. get_or (present indices) k 0) n ∙ present_at indices i p h f) ∙ ap (picked_row all) (sym f)

pub spread_null : (all : Rows) (indices : List (Option ℕ)) (i : ℕ) (out : Rows) → i < length indices → is_some (get_or indices i None) ≡ false → out ≡ picked all (take i indices) →
    out ++ None ∷ [] ≡ picked all (take (i + 1) indices)
spread_null all indices i out h none before =
    ap (λ (rs : Rows). rs ++ None ∷ []) before ∙ ap (λ (r : Option Value). picked all (take i indices) ++ r ∷ []) (here (get_or indices i None) none) ∙ sym (picked_more all indices i h)
  where
    here : (o : Option ℕ) → is_some o ≡ false → None ≡ picked_row all o
    here None f = refl
    here (Some p) f = absurd (false≢true (sym f))

-- why an index is refused
pub beyond_cause : (len : ℕ) (indices : List (Option ℕ)) (i : ℕ) (e : ColumnError) → i < length indices → (e ≡ OutOfMemory) ⊎ IsBeyond len (get_or indices i None) e → TakeCause len indices e
beyond_cause len indices i e h (inl memory) = inl memory
beyond_cause len indices i e h (inr beyond) = inr (get_or indices i None, ((i, h, get_or_default indices i (get_or indices i None) None h), beyond))

-- where none is absent, the rows are those at the places
pub all_present : (rows : Rows) (indices : List (Option ℕ)) → length (present indices) ≡ length indices → rows_at rows (present indices) ≡ picked rows indices
all_present rows [] e = refl
all_present rows (None ∷ indices) e = absurd (omega (arith, e, present_few indices))
all_present rows (Some p ∷ indices) e = ap (λ (rs : Rows). get_or rows p None ∷ rs) (all_present rows indices (omega arith))

pub none_absent : (indices : List (Option ℕ)) → length (present indices) ≡ length indices → list_any is_none indices ≡ false
none_absent [] e = refl
none_absent (None ∷ indices) e = absurd (omega (arith, e, present_few indices))
none_absent (Some p ∷ indices) e = none_absent indices (omega arith)

pub some_absent : (indices : List (Option ℕ)) → length (present indices) < length indices → list_any is_none indices ≡ true
some_absent [] h = absurd (omega arith)
some_absent (None ∷ indices) h = refl
some_absent (Some p ∷ indices) h = some_absent indices (omega arith)

-- not as many, and no more, are fewer
pub fewer : (a b : ℕ) → a ≤ b → (a ≡ b → ⊥) → a < b
fewer a b h differ = by_order (order a b)
  where
    order : (x y : ℕ) → (x < y) ⊎ (y ≤ x)
    order x y = grind arith

    by_order : (a < b) ⊎ (b ≤ a) → a < b
    by_order (inl less) = less
    by_order (inr more) = absurd (differ (omega arith))

pub present_all : (places : List ℕ) → present (map (λ p. Some p) places) ≡ places
present_all [] = refl
present_all (p ∷ places) = ap (λ (ns : List ℕ). p ∷ ns) (present_all places)

-- ---- all rows

pub all_kept : (rows : Rows) (bits : List Bool) → length bits ≡ length rows → count_true bits ≡ length rows → kept rows bits ≡ rows
all_kept [] bits h e = refl
all_kept (row ∷ rows) [] h e = absurd (omega arith)
all_kept (row ∷ rows) (true ∷ bits) h e =
    let one : count_true (true ∷ bits) ≡ 1 + count_true bits = sum_by-cons (λ (b : Bool). cond b 1 0) true bits in
    ap (λ (rs : Rows). row ∷ rs) (all_kept rows bits (omega arith) (omega (arith, one, e)))
all_kept (row ∷ rows) (false ∷ bits) h e =
    let none : count_true (false ∷ bits) ≡ count_true bits = refl in
    absurd (omega (arith, none, e, h, places_many bits, few 0 bits))
  where
    few : (at : ℕ) (bits : List Bool) → length (places_from at bits) ≤ length bits
    few at [] = omega arith
    few at (true ∷ bits) = omega (arith, few (at + 1) bits)
    few at (false ∷ bits) = omega (arith, few (at + 1) bits)

-- ---- runs

run_rows : (rows : Rows) (start count : ℕ) → IsInside (length rows) (start, count) → rows_at rows (range_with_len start count) ≡ slice_range rows start (start + count)
run_rows rows start zero inside =
    let e : start + 0 - start ≡ 0 = omega arith in
    sym (ap (λ n. take n (drop start rows)) e)
run_rows rows start (suc count) inside = picked_range rows start (suc count) (inside (omega arith))

pub runs_rows : (rows : Rows) (runs : List (ℕ × ℕ)) → All (IsInside (length rows)) runs → rows_at rows (run_places runs) ≡ joined_runs rows runs
runs_rows rows [] all = refl
runs_rows rows (run ∷ runs) all =
    map-append (λ i. get_or rows i None) (range_with_len run.0 run.1) (run_places runs)
    ∙ ap (λ (rs : Rows). rs ++ rows_at rows (run_places runs)) (run_rows rows run.0 run.1 (all 0 run (omega arith)))
    ∙ ap (λ (rs : Rows). slice_range rows run.0 (run.0 + run.1) ++ rs) (runs_rows rows runs (λ k d h. all (suc k) d (omega arith)))

pub run_below : (n a count : ℕ) → (0 < count → a + count ≤ n) → AreBelow n (range_with_len a count)
run_below n a count f = λ i d h.
    let within : i < count = omega (arith, h, length-range_with_len a count) in
    let top = f (omega arith) in
    subst (λ (p : ℕ). p < n) (sym (get_or-range_with_len a count i d within)) (omega arith)

pub runs_below : (n : ℕ) (runs : List (ℕ × ℕ)) → All (IsInside n) runs → AreBelow n (run_places runs)
runs_below n [] all = λ i d h. absurd (omega arith)
runs_below n (run ∷ runs) all =
    All-append (λ p. p < n) (range_with_len run.0 run.1) (run_places runs) (run_below n run.0 run.1 (all 0 run (omega arith))) (runs_below n runs (λ k d h. all (suc k) d (omega arith)))

pub runs_many : (runs : List (ℕ × ℕ)) → length (run_places runs) ≡ run_total runs
runs_many [] = refl
runs_many (run ∷ runs) =
    let all : run_total (run ∷ runs) ≡ run.1 + run_total runs = sum_by-cons (λ (r : ℕ × ℕ). r.1) run runs in
    length-append (range_with_len run.0 run.1) (run_places runs) ∙ omega (arith, all, length-range_with_len run.0 run.1, runs_many runs)

run_places-append : (xs ys : List (ℕ × ℕ)) → run_places (xs ++ ys) ≡ run_places xs ++ run_places ys
run_places-append [] ys = refl
run_places-append (x ∷ xs) ys =
    ap (λ (ps : List ℕ). range_with_len x.0 x.1 ++ ps) (run_places-append xs ys) ∙ sym (append_assoc (range_with_len x.0 x.1) (run_places xs) (run_places ys))

pub runs_next : (runs : List (ℕ × ℕ)) (i : ℕ) (d : ℕ × ℕ) → i < length runs → run_places (take (i + 1) runs) ≡ run_places (take i runs) ++ range_with_len (get_or runs i d).0 (get_or runs i d).1
runs_next runs i d h =
    let run = get_or runs i d in
    ap run_places (take_more runs i d h) ∙ run_places-append (take i runs) (run ∷ []) ∙ ap (λ (ps : List ℕ). run_places (take i runs) ++ ps) (append-nil (range_with_len run.0 run.1))
