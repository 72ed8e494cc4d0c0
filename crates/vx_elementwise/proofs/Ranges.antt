-- Rows that are worked on a range at a time, or one at a time.
use Rattle.std.proofs.Common.{ℕ, zero, suc, ◌≡◌, ◌<◌, ◌≤◌, ◌+◌, ◌-◌, ◌∙◌, ap, sym, refl, arith, Bool, true, false, cond, ◌&&◌, List, [], ◌∷◌, ◌++◌, length, get_or, take, drop, map, replicate, Option, Some, None, append_assoc}
use Rattle.std.specs.List.{slice_range}
use Rattle.std.specs.Option.{is_some}
use Rattle.std.proofs.lemmas.Bool.{false≢true, and_parts}
use Rattle.std.proofs.lemmas.List.{take-append-drop, take-take, take_more, drop-take, map-append, length-drop, length-take-le, get_or-drop, get_or-take, get_or-replicate, replicate-append-replicate}
use Rattle.std.proofs.lemmas.List.Folds.{list_all-append}
use Rattle.vx_rows.specs.declared.dtype.DType.{DType}
use Rattle.vx_rows.specs.declared.value.Value.{Value}
use Rattle.vx_rows.specs.Fits.{row_fits, rows_fit}
use Rattle.vx_buffers.proofs.Rows.{range_more}
use Rattle.vx_scalars.specs.Elementwise.{chosen, IsMisfitAt, filled_row}
use Rattle.vx_scalars.proofs.Lists.{chosen_append}

pub take_range : {A : Type 0} (xs : List A) (s e : ℕ) → s ≤ e → take e xs ≡ take s xs ++ slice_range xs s e
take_range xs s e o =
    let m : ℕ = e - s in
    let f : e ≡ s + m = omega arith in
    let front : take s (take e xs) ≡ take s xs = take-take s e xs o in
    let back : drop s (take e xs) ≡ slice_range xs s e = ap (λ n. drop s (take n xs)) f ∙ drop-take s m xs in
    sym (take-append-drop s (take e xs)) ∙ (λ i. front i ++ back i)

length_range : {A : Type 0} (xs : List A) (s e : ℕ) → s ≤ e → e ≤ length xs → length (slice_range xs s e) ≡ e - s
length_range xs s e o h = length-take-le (e - s) (drop s xs) (omega (arith, length-drop s xs))

at_range : {A : Type 0} (xs : List A) (s e i : ℕ) (d : A) → i < e - s → get_or (slice_range xs s e) i d ≡ get_or xs (s + i) d
at_range xs s e i d h = get_or-take (e - s) (drop s xs) i d h ∙ get_or-drop s xs i d

pub take_range_more : {A : Type 0} (xs before now : List A) (s e : ℕ) → s ≤ e → before ≡ take s xs → now ≡ before ++ slice_range xs s e → now ≡ take e xs
take_range_more xs before now s e o so_far next = next ∙ ap (λ rs. rs ++ slice_range xs s e) so_far ∙ sym (take_range xs s e o)

-- f of the elements so far, and of a range more
pub map_range_more : {A B : Type 0} (f : A → B) (xs block : List A) (s e : ℕ) (before now : List B) → s ≤ e → block ≡ slice_range xs s e → before ≡ map f (take s xs) → now ≡ before ++ map f block → now ≡ map f (take e xs)
map_range_more f xs block s e before now o range so_far next =
    next ∙ (λ i. so_far i ++ map f (range i)) ∙ sym (map-append f (take s xs) (slice_range xs s e)) ∙ ap (map f) (sym (take_range xs s e o))

-- behind other elements f of the elements so far, and of one more
pub map_one_more : {A B : Type 0} (f : A → B) (xs : List A) (i : ℕ) (x d : A) (out before now : List B) → i < length xs → x ≡ get_or xs i d → before ≡ out ++ map f (take i xs) → now ≡ before ++ f x ∷ [] → now ≡ out ++ map f (take (i + 1) xs)
map_one_more f xs i x d out before now h at so_far next =
    next ∙ (λ j. so_far j ++ f (at j) ∷ []) ∙ append_assoc out (map f (take i xs)) (f (get_or xs i d) ∷ [])
    ∙ ap (λ rs. out ++ rs) (sym (ap (map f) (take_more xs i d h) ∙ map-append f (take i xs) (get_or xs i d ∷ [])))

-- rows that fit so far, and a range more
pub fits_range_more : (t : DType) (rows : List (Option Value)) (s e : ℕ) → s ≤ e → rows_fit t (take s rows) ≡ true → rows_fit t (slice_range rows s e) ≡ true → rows_fit t (take e rows) ≡ true
fits_range_more t rows s e o h k =
    ap (rows_fit t) (take_range rows s e o) ∙ list_all-append (row_fits t) (take s rows) (slice_range rows s e) ∙ (λ i. h i && k i)

-- the row that is repeated fits, where it is one of the rows
pub fits_repeated : (t : DType) (rows : List (Option Value)) (row : Option Value) (n : ℕ) → rows_fit t rows ≡ true → rows ≡ replicate n row → 0 < n → row_fits t row ≡ true
fits_repeated t rows row zero h e some = absurd (omega arith)
fits_repeated t rows row (suc n) h e some = (and_parts (row_fits t row) (rows_fit t (replicate n row)) (ap (rows_fit t) (sym e) ∙ h)).0

-- a row of a range that doesn't fit
pub misfit_inside : (t : DType) (rows : List (Option Value)) (s e i : ℕ) → s ≤ e → e ≤ length rows → IsMisfitAt t (slice_range rows s e) i → IsMisfitAt t rows (s + i)
misfit_inside t rows s e i o h m =
    let inside : i < e - s = let k = m.0 in omega (arith, length_range rows s e o h) in
    (omega arith, ap (row_fits t) (sym (at_range rows s e i None inside)) ∙ m.1)

-- a run of like elements
run_of_none : {A : Type 0} (xs : List A) (s : ℕ) (x : A) → slice_range xs s s ≡ replicate (s - s) x
run_of_none xs s x = let none : s - s ≡ 0 = omega arith in ap (λ n. take n (drop s xs)) none ∙ sym (ap (λ n. replicate n x) none)

pub run_more : {A : Type 0} (xs : List A) (s i : ℕ) (x d : A) → s ≤ i → i < length xs → slice_range xs s i ≡ replicate (i - s) x → get_or xs i d ≡ x → slice_range xs s (i + 1) ≡ replicate (i + 1 - s) x
run_more xs s i x d o h so_far at =
    let e : i + 1 - s ≡ i - s + 1 = omega arith in
    range_more xs s i d o h ∙ (λ k. so_far k ++ at k ∷ []) ∙ replicate-append-replicate (i - s) 1 x ∙ ap (λ n. replicate n x) (sym e)

pub run_of_one : {A : Type 0} (xs : List A) (s : ℕ) (d : A) → s < length xs → slice_range xs s (s + 1) ≡ replicate (s + 1 - s) (get_or xs s d)
run_of_one xs s d h = run_more xs s s (get_or xs s d) d (omega arith) h (run_of_none xs s (get_or xs s d)) refl

chosen_of_one : {A : Type 0} (a b : List A) (bit : Bool) (n : ℕ) → length a ≡ n → length b ≡ n → chosen a b (replicate n bit) ≡ cond bit a b
chosen_of_one [] [] true n h k = refl
chosen_of_one [] [] false n h k = refl
chosen_of_one [] (s ∷ b) bit n h k = absurd (omega arith)
chosen_of_one (r ∷ a) [] bit n h k = absurd (omega arith)
chosen_of_one (r ∷ a) (s ∷ b) bit zero h k = absurd (omega arith)
chosen_of_one (r ∷ a) (s ∷ b) true (suc n) h k = ap (λ rs. r ∷ rs) (chosen_of_one a b true n (omega arith) (omega arith))
chosen_of_one (r ∷ a) (s ∷ b) false (suc n) h k = ap (λ rs. s ∷ rs) (chosen_of_one a b false n (omega arith) (omega arith))

range_of_choice : {A : Type 0} (a b : List A) (bit : Bool) (s e : ℕ) → cond bit (slice_range a s e) (slice_range b s e) ≡ slice_range (cond bit a b) s e
range_of_choice a b true s e = refl
range_of_choice a b false s e = refl

-- the elements that are chosen so far, and a run more of one choice
pub chosen_run_more : {A : Type 0} (a b : List A) (choice : List Bool) (s e : ℕ) (bit : Bool) (before now : List A) → length b ≡ length a → length choice ≡ length a → s ≤ e → e ≤ length choice →
    slice_range choice s e ≡ replicate (e - s) bit → before ≡ chosen (take s a) (take s b) (take s choice) → now ≡ before ++ slice_range (cond bit a b) s e → now ≡ chosen (take e a) (take e b) (take e choice)
chosen_run_more a b choice s e bit before now same_b same_choice o inside same so_far next =
    let front_a : length (take s a) ≡ s = length-take-le s a (omega arith) in
    let front_b : length (take s b) ≡ s = length-take-le s b (omega arith) in
    let front_choice : length (take s choice) ≡ s = length-take-le s choice (omega arith) in
    let run : chosen (slice_range a s e) (slice_range b s e) (slice_range choice s e) ≡ slice_range (cond bit a b) s e =
    ap (chosen (slice_range a s e) (slice_range b s e)) same
    ∙ chosen_of_one (slice_range a s e) (slice_range b s e) bit (e - s) (length_range a s e o (omega arith)) (length_range b s e o (omega arith))
    ∙ range_of_choice a b bit s e in
    next ∙ ap (λ rs. rs ++ slice_range (cond bit a b) s e) so_far
    ∙ ap (λ rs. chosen (take s a) (take s b) (take s choice) ++ rs) (sym run)
    ∙ sym (chosen_append (take s a) (take s b) (take s choice) (slice_range a s e) (slice_range b s e) (slice_range choice s e) (front_b ∙ sym front_a) (front_choice ∙ sym front_a))
    ∙ sym (λ i. chosen (take_range a s e o i) (take_range b s e o i) (take_range choice s e o i))

-- a row that is repeated and doesn't fit
pub misfit_repeated : (t : DType) (rows : List (Option Value)) (row : Option Value) → rows ≡ replicate (length rows) row → 0 < length rows → row_fits t row ≡ false → IsMisfitAt t rows 0
misfit_repeated t rows row same some h =
    let first : get_or rows 0 None ≡ row = ap (λ rs. get_or rs 0 None) same ∙ get_or-replicate (length rows) 0 row None some in
    (some, ap (row_fits t) first ∙ h)

value_kept : (value row : Option Value) → is_some row ≡ true → filled_row value row ≡ row
value_kept value None h = absurd (false≢true h)
value_kept value (Some v) h = refl

-- a run of values that is one longer, behind other rows
pub run_of_values : (value : Option Value) (out rows : List (Option Value)) (s i : ℕ) → s ≤ i → i < length rows → is_some (get_or rows i None) ≡ true →
    out ++ slice_range rows s (i + 1) ≡ (out ++ slice_range rows s i) ++ filled_row value (get_or rows i None) ∷ []
run_of_values value out rows s i o h valid =
    ap (λ rs. out ++ rs) (range_more rows s i None o h) ∙ sym (append_assoc out (slice_range rows s i) (get_or rows i None ∷ []))
    ∙ ap (λ r. (out ++ slice_range rows s i) ++ r ∷ []) (sym (value_kept value (get_or rows i None) valid))
