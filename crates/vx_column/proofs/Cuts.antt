-- Cuts of chunks.
use Rattle.std.proofs.lemmas.Bool.{and_parts, and_from}
use Rattle.std.proofs.lemmas.Bool.Decides.{nat_tests}
use Rattle.std.proofs.Common.{inl, inr, ◌^◌, Bool, true, false, cond, nat_eq, None, Option, Some, ◌≡◌, ℕ, zero, suc, ◌+◌, ◌-◌, ◌*◌, ◌≤◌, ◌<◌, List, [], ◌∷◌, ◌++◌, take, drop, length, map, get_or, max, refl, sym, ◌∙◌, ap, subst, arith, append_assoc, append-nil, length-append}
use Rattle.std.proofs.lemmas.List.{take-map, length-map, length-take-le, length-take, get_or-map, get_or-drop, length-drop, take_at, take_more, take-append-drop, map-append}
use Rattle.std.specs.List.{slice_range}
use Rattle.std.proofs.Math.Nat.{mul-le-mul, mul-le-mul_left, le_refl}
use Rattle.std.specs.List.{All, AllByRecursion}
use Rattle.std.proofs.lemmas.List.Elements.{All-from_recursion, recursion_from_All, All-take}
use Rattle.vx_search.specs.Places.{search_bound}
use Rattle.vx_base.specs.Ranges.{ends_cut}
use Rattle.vx_chunks.specs.Bounds.{total}
use Rattle.vx_patches.specs.Places.{Index, indices_of}
use Rattle.vx_patches.specs.Search.{search_cost, offset_reads, comparisons}
use Rattle.vx_patches.specs.Slices.{front_reads, cut_cost as places_cut_cost}
use Rattle.vx_chunks.specs.Plans.{IsSpan}
use Rattle.vx_chunks.specs.Causes.{SumCause}
use Rattle.vx_rows.specs.declared.error.ColumnError.{ColumnError}
use Rattle.vx_rows.specs.declared.error.ColumnError.TheVariants.{OutOfMemory}
use Rattle.vx_search.proofs.Powers.{search_bound-le}
use Rattle.vx_base.specs.Column.{Flat, flat, IsFlat}
use Rattle.vx_rows.specs.declared.dtype.DType.{DType}
use Rattle.vx_column.specs.Columns.{type_of, rows_of, len_of, point_cost, cut_cost, lane_cost, is_plain, all_true, IsSound, IsPlain, IsSliceOf, last_piece}
use Rattle.vx_job.specs.Rows.{Rows, joined, greatest}
use Rattle.vx_column.specs.declared.chunked.Chunked.{Chunked}
use Rattle.vx_column.specs.declared.patched.Patched.{Patched}
use Rattle.vx_column.specs.declared.excepted.Excepted.{Excepted}
use Rattle.vx_column.specs.declared.interleave.Interleave.{Interleave}
use Rattle.vx_column.specs.declared.column.Column.{Column}
use Rattle.vx_column.specs.declared.column.Column.TheVariants as column
use Rattle.vx_column.specs.declared.column.Column.TheVariants.{rolls-Flat, rolls-Chunked, rolls-Patched, rolls-Excepted, rolls-Interleave}
use Rattle.vx_column.specs.declared.column.Column.TheOpen.{Column-F}
use Rattle.vx_column.specs.declared.column.Column.TheViews.{roll-Column}
use Rattle.vx_column.specs.declared.column.Column.TheFolds.{ind-Column, map-Column}
use Rattle.vx_column.proofs.Layers.{chunks_here, type_chunked, type_flat, rows_chunked, point_chunked, cut_chunked, total_joined, sound_flat, point_least, rows_flat, point_flat, cut_flat, lane_flat, lane_chunked, plain_flat, plain_chunked, point_patched, cut_patched, point_excepted, cut_excepted, cut_interleave}
use Rattle.vx_column.proofs.Lists.{sublist_inside, sublist_across, sublist_front, sublist_rest, sublist_whole, sublist_none, split_at, ends_cut_within, ends_cut_across, greatest-append}

-- the rows of columns, joined
abbrev pub rows_in : List Column → Rows
rows_in xs = joined (map rows_of xs)

pub rows-append : (xs ys : List Column) → rows_in (xs ++ ys) ≡ rows_in xs ++ rows_in ys
rows-append [] ys = refl
rows-append (x ∷ xs) ys = ap (λ r. rows_of x ++ r) (rows-append xs ys) ∙ sym (append_assoc (rows_of x) (rows_in xs) (rows_in ys))

pub rows_before : (xs : List Column) (k : ℕ) → total (take k (map len_of xs)) ≡ length (rows_in (take k xs))
rows_before xs k = ap total (take-map len_of k xs) ∙ total_joined (take k xs)

pub len_at : (xs : List Column) (k : ℕ) (x : Column) → k < length xs → x ≡ get_or xs k x → get_or (map len_of xs) k 0 ≡ len_of x
len_at xs k x h e = get_or-map len_of xs k x 0 h ∙ ap len_of (sym e)

pub greatest_at : (f : Column → ℕ) (xs : List Column) (k : ℕ) (x : Column) → k < length xs → x ≡ get_or xs k x → f x ≤ greatest (map f xs)
greatest_at f [] k x h e = absurd (omega arith)
greatest_at f (y ∷ xs) zero x h e = omega (arith, ap f e)
greatest_at f (y ∷ xs) (suc k) x h e = omega (arith, greatest_at f xs k x (omega arith) e)

pub cut_cost_is : (c : Chunked Column) → cut_cost (column.Chunked c) ≡ search_bound (length c.chunks + 1) + greatest (map cut_cost c.chunks)
cut_cost_is c = cut_chunked c ∙ ap (λ n. search_bound (n + 1) + greatest (map cut_cost c.chunks)) (length-map c.chunks cut_cost)

pub point_cost_is : (c : Chunked Column) → point_cost (column.Chunked c) ≡ search_bound (length c.chunks + 1) + greatest (map point_cost c.chunks)
point_cost_is c = point_chunked c ∙ ap (λ n. search_bound (n + 1) + greatest (map point_cost c.chunks)) (length-map c.chunks point_cost)

pub greatest_more : (f : Column → ℕ) (xs : List Column) (k : ℕ) (x : Column) → k < length xs → x ≡ get_or xs k x →
    greatest (map f (take (k + 1) xs)) ≡ max (greatest (map f (take k xs))) (f x)
greatest_more f xs k x h e =
    let more : take (k + 1) xs ≡ take k xs ++ x ∷ [] = take_more xs k x h ∙ ap (λ y. take k xs ++ y ∷ []) (sym e) in
    let one : max (f x) 0 ≡ f x = omega arith in
    ap (λ ys. greatest (map f ys)) more ∙ ap greatest (map-append f (take k xs) (x ∷ [])) ∙ greatest-append (map f (take k xs)) (f x ∷ []) ∙ ap (max (greatest (map f (take k xs)))) one

pub total_at : (f : Column → ℕ) (xs : List Column) (k : ℕ) (x : Column) → k < length xs → x ≡ get_or xs k x → f x ≤ total (map f xs)
total_at f [] k x h e = absurd (omega arith)
total_at f (y ∷ xs) zero x h e = omega (arith, ap f e)
total_at f (y ∷ xs) (suc k) x h e = omega (arith, total_at f xs k x (omega arith) e)

pub plain_at : (xs : List Column) (k : ℕ) (x : Column) → k < length xs → x ≡ get_or xs k x → all_true (map is_plain xs) ≡ true → is_plain x ≡ true
plain_at [] k x h e all = absurd (omega arith)
plain_at (y ∷ xs) zero x h e all = ap is_plain e ∙ (and_parts (is_plain y) (all_true (map is_plain xs)) all).0
plain_at (y ∷ xs) (suc k) x h e all = plain_at xs k x (omega arith) e (and_parts (is_plain y) (all_true (map is_plain xs)) all).1

-- a chunk of a plain column is plain
pub plain_in : (c : Chunked Column) (k : ℕ) (x : Column) → IsPlain (column.Chunked c) → k < length (map len_of c.chunks) → x ≡ get_or c.chunks k x → IsPlain x
plain_in c k x plain h at = plain_at c.chunks k x (omega (arith, h, length-map c.chunks len_of)) at (sym (plain_chunked c) ∙ plain)

-- a cut inside one chunk
pub cut_one : (c : Chunked Column) (start end first s last e : ℕ) → IsSpan (map len_of c.chunks) start end first s last e → first ≡ last → start < end →
    (x : Column) → x ≡ get_or c.chunks first x → type_of x ≡ c.dtype → (part : Column) → IsSliceOf x part s e → IsSliceOf (column.Chunked c) part start end
cut_one c start end first s last e span same some x at typed part slice =
    let xs = c.chunks in
    let p = take first xs in
    let q = drop (first + 1) xs in
    let within : first < length xs = omega (arith, span.within, length-map xs len_of) in
    let whole : rows_of (column.Chunked c) ≡ rows_in p ++ (rows_of x ++ rows_in q) = rows_chunked c ∙ ap rows_in (split_at xs first x within at) ∙ rows-append p (x ∷ q) in
    let before : total (take first (map len_of xs)) ≡ length (rows_in p) = rows_before xs first in
    let before_last : total (take last (map len_of xs)) ≡ length (rows_in p) = ap (λ k. total (take k (map len_of xs))) (sym same) ∙ before in
    let fits : e ≤ length (rows_of x) = omega (arith, span.back_within, ap (λ k. get_or (map len_of xs) k 0) same, len_at xs first x within at) in
    let inside : slice_range (rows_in p ++ (rows_of x ++ rows_in q)) start end ≡ slice_range (rows_of x) s e =
    sublist_inside (rows_in p) (rows_of x) (rows_in q) s e start end (omega (arith, span.front, span.back)) fits (omega (arith, span.front)) (omega (arith, span.back)) in
    record {
      sound = slice.sound;
      dtype = slice.dtype ∙ typed ∙ sym (type_chunked c);
      rows = slice.rows ∙ sym inside ∙ ap (λ r. slice_range r start end) (sym whole);
      point = omega (arith, slice.point, greatest_at point_cost xs first x within at, point_cost_is c);
      cut = omega (arith, slice.cut, greatest_at cut_cost xs first x within at, cut_cost_is c);
      lanes = omega (arith, slice.lanes, total_at lane_cost xs first x within at, lane_chunked c);
      plain = λ all. slice.plain (plain_at xs first x within at (sym (plain_chunked c) ∙ all));
    }

-- what stands in a list at two places, and round them
pub record Split (xs : List Column) (first last : ℕ) (x y : Column) (m : List Column) : Type 0 where
  pub rest : List Column
  pub parts : xs ≡ take first xs ++ (x ∷ (m ++ (y ∷ rest)))
  pub front_long : length (take first xs) ≡ first
  pub middle_long : first + 1 + length m ≡ last

pub split_twice : (xs : List Column) (first last : ℕ) (x y : Column) (m : List Column) → first < last → last < length xs →
    x ≡ get_or xs first x → y ≡ get_or xs last y → m ≡ slice_range xs (first + 1) last → Split xs first last x y m
split_twice xs first last x y m h k at_x at_y mid =
    let r = drop (first + 1) xs in
    let j = last - (first + 1) in
    let gap : first + 1 + j ≡ last = omega arith in
    let in_r : j < length r = omega (arith, length-drop (first + 1) xs) in
    let at_r : y ≡ get_or r j y = at_y ∙ ap (λ n. get_or xs n y) (sym gap) ∙ sym (get_or-drop (first + 1) xs j y) in
    record {
      rest = drop (j + 1) r;
      parts = split_at xs first x (omega arith) at_x ∙ ap (λ r'. take first xs ++ (x ∷ r')) (split_at r j y in_r at_r ∙ ap (λ m'. m' ++ (y ∷ drop (j + 1) r)) (sym mid));
      front_long = length-take-le first xs (omega arith);
      middle_long = omega (arith, ap length mid, length-take-le j r (omega arith));
    }

-- a cut from one chunk to a later one
pub rows_many : (xs : List Column) (start end first s last e : ℕ) → IsSpan (map len_of xs) start end first s last e → first < last →
    (x y : Column) (m : List Column) → Split xs first last x y m → x ≡ get_or xs first x → y ≡ get_or xs last y →
    (front back : Column) → rows_of front ≡ slice_range (rows_of x) s (len_of x) → rows_of back ≡ slice_range (rows_of y) 0 e →
    rows_in (front ∷ (m ++ back ∷ [])) ≡ slice_range (rows_in xs) start end
rows_many xs start end first s last e span less x y m split at_x at_y front back f b =
    let p = take first xs in
    let q = split.rest in
    let within : last < length xs = omega (arith, span.within, length-map xs len_of) in
    let whole : rows_in xs ≡ rows_in p ++ (rows_of x ++ (rows_in m ++ (rows_of y ++ rows_in q))) =
    ap rows_in split.parts ∙ rows-append p (x ∷ (m ++ (y ∷ q))) ∙ ap (λ r. rows_in p ++ (rows_of x ++ r)) (rows-append m (y ∷ q)) in
    let before : total (take first (map len_of xs)) ≡ length (rows_in p) = rows_before xs first in
    let to_last : take last xs ≡ p ++ (x ∷ m) = take_to xs p x m y q first last split.parts split.front_long split.middle_long in
    let before_last : total (take last (map len_of xs)) ≡ length (rows_in p) + (length (rows_of x) + length (rows_in m)) =
    rows_before xs last ∙ ap (λ r. length (rows_in r)) to_last ∙ ap length (rows-append p (x ∷ m)) ∙ length-append (rows_in p) (rows_of x ++ rows_in m)
    ∙ ap (λ n. length (rows_in p) + n) (length-append (rows_of x) (rows_in m)) in
    let fits_x : s ≤ length (rows_of x) = omega (arith, span.front_within, len_at xs first x (omega arith) at_x) in
    let fits_y : e ≤ length (rows_of y) = omega (arith, span.back_within, len_at xs last y within at_y) in
    let across = sublist_across (rows_in p) (rows_of x) (rows_in m) (rows_of y) (rows_in q) s e start end fits_x fits_y (omega (arith, span.front)) (omega (arith, span.back)) in
    let pieces : rows_in (front ∷ (m ++ back ∷ [])) ≡ drop s (rows_of x) ++ (rows_in m ++ take e (rows_of y)) =
    ap (λ r. rows_of front ++ r) (rows-append m (back ∷ [])) ∙ ap (λ r. rows_of front ++ (rows_in m ++ r)) (append-nil (rows_of back) ∙ b ∙ sublist_front (rows_of y) e)
    ∙ ap (λ r. r ++ (rows_in m ++ take e (rows_of y))) (f ∙ sublist_rest (rows_of x) s) in
    pieces ∙ sym across ∙ ap (λ r. slice_range r start end) (sym whole)
  where
    take_to : (xs p : List Column) (x : Column) (m : List Column) (y : Column) (q : List Column) (first last : ℕ) → xs ≡ p ++ (x ∷ (m ++ (y ∷ q))) → length p ≡ first → first + 1 + length m ≡ last →
        take last xs ≡ p ++ (x ∷ m)
    take_to xs p x m y q first last e long mid =
        let again : (p ++ (x ∷ m)) ++ (y ∷ q) ≡ xs = append_assoc p (x ∷ m) (y ∷ q) ∙ sym e in
        let n : length (p ++ (x ∷ m)) ≡ last = omega (arith, length-append p (x ∷ m)) in
        ap (take last) (sym again) ∙ take_at (p ++ (x ∷ m)) (y ∷ q) last n

pub greatest_parts : (f : Column → ℕ) (xs : List Column) (first last : ℕ) (x y : Column) (m : List Column) → Split xs first last x y m →
    (front back : Column) → f front ≤ f x → f back ≤ f y → greatest (map f (front ∷ (m ++ back ∷ []))) ≤ greatest (map f xs)
greatest_parts f xs first last x y m split front back h k =
    let p = take first xs in
    let all : greatest (map f xs) ≡ max (greatest (map f p)) (max (f x) (max (greatest (map f m)) (max (f y) (greatest (map f split.rest))))) =
    ap (λ r. greatest (map f r)) split.parts ∙ greatest_of f p (x ∷ (m ++ (y ∷ split.rest))) ∙ ap (λ n. max (greatest (map f p)) (max (f x) n)) (greatest_of f m (y ∷ split.rest)) in
    let some : greatest (map f (front ∷ (m ++ back ∷ []))) ≡ max (f front) (max (greatest (map f m)) (max (f back) 0)) =
    ap (λ n. max (f front) n) (greatest_of f m (back ∷ [])) in
    omega (arith, all, some)
  where
    greatest_of : (f : Column → ℕ) (xs ys : List Column) → greatest (map f (xs ++ ys)) ≡ max (greatest (map f xs)) (greatest (map f ys))
    greatest_of f [] ys = omega arith
    greatest_of f (x ∷ xs) ys = omega (arith, greatest_of f xs ys)

pub total_parts : (f : Column → ℕ) (xs : List Column) (first last : ℕ) (x y : Column) (m : List Column) → Split xs first last x y m →
    (front back : Column) → f front ≤ f x → f back ≤ f y → total (map f (front ∷ (m ++ back ∷ []))) ≤ total (map f xs)
total_parts f xs first last x y m split front back h k =
    let p = take first xs in
    let all : total (map f xs) ≡ total (map f p) + (f x + (total (map f m) + (f y + total (map f split.rest)))) =
    ap (λ r. total (map f r)) split.parts ∙ total_of f p (x ∷ (m ++ (y ∷ split.rest))) ∙ ap (λ n. total (map f p) + (f x + n)) (total_of f m (y ∷ split.rest)) in
    let some : total (map f (front ∷ (m ++ back ∷ []))) ≡ f front + (total (map f m) + (f back + 0)) =
    ap (λ n. f front + n) (total_of f m (back ∷ [])) in
    omega (arith, all, some)
  where
    total_of : (f : Column → ℕ) (xs ys : List Column) → total (map f (xs ++ ys)) ≡ total (map f xs) + total (map f ys)
    total_of f [] ys = omega arith
    total_of f (x ∷ xs) ys = omega (arith, total_of f xs ys)

plain_split : (xs ys : List Column) → all_true (map is_plain (xs ++ ys)) ≡ true → (all_true (map is_plain xs) ≡ true) × (all_true (map is_plain ys) ≡ true)
plain_split [] ys all = (refl, all)
plain_split (x ∷ xs) ys all =
    let p = and_parts (is_plain x) (all_true (map is_plain (xs ++ ys))) all in
    let q = plain_split xs ys p.1 in
    (and_from (is_plain x) (all_true (map is_plain xs)) p.0 q.0, q.1)

plain_join : (xs ys : List Column) → all_true (map is_plain xs) ≡ true → all_true (map is_plain ys) ≡ true → all_true (map is_plain (xs ++ ys)) ≡ true
plain_join [] ys a b = b
plain_join (x ∷ xs) ys a b =
    let p = and_parts (is_plain x) (all_true (map is_plain xs)) a in
    and_from (is_plain x) (all_true (map is_plain (xs ++ ys))) p.0 (plain_join xs ys p.1 b)

pub plain_parts : (xs : List Column) (first last : ℕ) (x y : Column) (m : List Column) → Split xs first last x y m → (front back : Column) →
    (is_plain x ≡ true → is_plain front ≡ true) → (is_plain y ≡ true → is_plain back ≡ true) → all_true (map is_plain xs) ≡ true → all_true (map is_plain (front ∷ (m ++ back ∷ []))) ≡ true
plain_parts xs first last x y m split front back f b all =
    let behind = (plain_split (take first xs) (x ∷ (m ++ (y ∷ split.rest))) (sym (ap (λ r. all_true (map is_plain r)) split.parts) ∙ all)).1 in
    let at_x = and_parts (is_plain x) (all_true (map is_plain (m ++ (y ∷ split.rest)))) behind in
    let round_m = plain_split m (y ∷ split.rest) at_x.1 in
    let at_y = and_parts (is_plain y) (all_true (map is_plain split.rest)) round_m.1 in
    and_from (is_plain front) (all_true (map is_plain (m ++ back ∷ []))) (f at_x.0)
    (plain_join m (back ∷ []) round_m.0 (and_from (is_plain back) true (b at_y.0) refl))

-- what holds of a last piece left out and of one kept
pub by_last : (P : List Column → Type 0) (back : Column) → (len_of back ≡ 0 → P []) → P (back ∷ []) → P (last_piece back)
by_last P back f p = go (nat_eq (len_of back) 0) refl
  where
    go : (b : Bool) → nat_eq (len_of back) 0 ≡ b → P (cond b [] (back ∷ []))
    go true e = f (grind (arith, nat_tests))
    go false e = p

empty_rows : (rows : Rows) → length rows ≡ 0 → rows ≡ []
empty_rows [] h = refl
empty_rows (r ∷ rows) h = absurd (omega arith)

rows_last : (m : List Column) (back : Column) → rows_in (m ++ last_piece back) ≡ rows_in (m ++ back ∷ [])
rows_last m back =
    by_last (λ ys. rows_in (m ++ ys) ≡ rows_in (m ++ back ∷ [])) back
    (λ none. rows-append m [] ∙ ap (λ r. rows_in m ++ r) (sym (ap (λ r. r ++ []) (empty_rows (rows_of back) none))) ∙ sym (rows-append m (back ∷ []))) refl

greatest_last : (f : Column → ℕ) (front : Column) (m : List Column) (back : Column) → greatest (map f (front ∷ (m ++ last_piece back))) ≤ greatest (map f (front ∷ (m ++ back ∷ [])))
greatest_last f front m back =
    by_last (λ ys. greatest (map f (front ∷ (m ++ ys))) ≤ greatest (map f (front ∷ (m ++ back ∷ [])))) back (λ _. omega (arith, fewer m)) (le_refl (greatest (map f (front ∷ (m ++ back ∷ [])))))
  where
    fewer : (m : List Column) → greatest (map f (m ++ [])) ≤ greatest (map f (m ++ back ∷ []))
    fewer [] = omega arith
    fewer (x ∷ m) = omega (arith, fewer m)

pub total_last : (f : Column → ℕ) (front : Column) (m : List Column) (back : Column) → total (map f (front ∷ (m ++ last_piece back))) ≤ total (map f (front ∷ (m ++ back ∷ [])))
total_last f front m back =
    by_last (λ ys. total (map f (front ∷ (m ++ ys))) ≤ total (map f (front ∷ (m ++ back ∷ [])))) back (λ _. omega (arith, fewer m)) (le_refl (total (map f (front ∷ (m ++ back ∷ [])))))
  where
    fewer : (m : List Column) → total (map f (m ++ [])) ≤ total (map f (m ++ back ∷ []))
    fewer [] = omega arith
    fewer (x ∷ m) = omega (arith, fewer m)

plain_last : (front : Column) (m : List Column) (back : Column) → all_true (map is_plain (front ∷ (m ++ back ∷ []))) ≡ true → all_true (map is_plain (front ∷ (m ++ last_piece back))) ≡ true
plain_last front m back all =
    by_last (λ ys. all_true (map is_plain (front ∷ (m ++ ys))) ≡ true) back
    (λ _. let p = plain_split (front ∷ m) (back ∷ []) all in plain_join (front ∷ m) [] p.0 refl) all

pub all_last : (P : Column → Type 0) (front : Column) (m : List Column) (back : Column) → All P (front ∷ (m ++ back ∷ [])) → All P (front ∷ (m ++ last_piece back))
all_last P front m back all =
    by_last (λ ys. All P (front ∷ (m ++ ys))) back (λ _. subst (All P) (sym (append-nil (front ∷ m))) (fewer (front ∷ m) (back ∷ []) all)) all
  where
    fewer : (xs ys : List Column) → All P (xs ++ ys) → All P xs
    fewer xs ys h = subst (All P) (take_at xs ys (length xs) refl) (All-take P (length xs) (xs ++ ys) h)

-- a sum that fits is refused for running out of memory alone
pub only_memory_of_sum : (sum : ℕ) (e : ColumnError) → sum < 2 ^ 64 → SumCause sum e → e ≡ OutOfMemory
only_memory_of_sum sum e h (inl memory) = memory
only_memory_of_sum sum e h (inr long) = absurd (omega (arith, long.1))

length_last : (front : Column) (m : List Column) (back : Column) → length (front ∷ (m ++ last_piece back)) ≤ length (front ∷ (m ++ back ∷ []))
length_last front m back =
    by_last (λ ys. length (front ∷ (m ++ ys)) ≤ length (front ∷ (m ++ back ∷ []))) back
    (λ _. omega (arith, length-append m [], length-append m (back ∷ []))) (le_refl (length (front ∷ (m ++ back ∷ []))))

pub cut_many : (c a : Chunked Column) (start end first s last e : ℕ) → IsSpan (map len_of c.chunks) start end first s last e → first < last →
    (x y : Column) (m : List Column) → x ≡ get_or c.chunks first x → y ≡ get_or c.chunks last y → m ≡ slice_range c.chunks (first + 1) last →
    (front back : Column) → IsSliceOf x front s (len_of x) → IsSliceOf y back 0 e →
    IsSound (column.Chunked a) → a.chunks ≡ front ∷ (m ++ last_piece back) → a.dtype ≡ c.dtype → IsSliceOf (column.Chunked c) (column.Chunked a) start end
cut_many c a start end first s last e span less x y m at_x at_y mid front back f b sound made typed =
    let xs = c.chunks in
    let within : last < length xs = omega (arith, span.within, length-map xs len_of) in
    let split : Split xs first last x y m = split_twice xs first last x y m less within at_x at_y mid in
    let count : length a.chunks ≤ length xs = omega (arith, ap length made, length_last front m back, length-append m (back ∷ []), split.middle_long) in
    let bound : search_bound (length a.chunks + 1) ≤ search_bound (length xs + 1) = search_bound-le (length a.chunks + 1) (length xs + 1) (omega arith) in
    record {
      sound = sound;
      dtype = type_chunked a ∙ typed ∙ sym (type_chunked c);
      rows = rows_chunked a ∙ ap rows_in made ∙ ap (λ r. rows_of front ++ r) (rows_last m back) ∙ rows_many xs start end first s last e span less x y m split at_x at_y front back f.rows b.rows ∙ ap (λ r. slice_range r start end) (sym (rows_chunked c));
      point = omega (arith, point_cost_is a, point_cost_is c, bound, ap (λ r. greatest (map point_cost r)) made, greatest_last point_cost front m back, greatest_parts point_cost xs first last x y m split front back f.point b.point);
      cut = omega (arith, cut_cost_is a, cut_cost_is c, bound, ap (λ r. greatest (map cut_cost r)) made, greatest_last cut_cost front m back, greatest_parts cut_cost xs first last x y m split front back f.cut b.cut);
      lanes = omega (arith, lane_chunked a, lane_chunked c, ap (λ r. total (map lane_cost r)) made, total_last lane_cost front m back, total_parts lane_cost xs first last x y m split front back f.lanes b.lanes);
      plain = λ all. plain_chunked a ∙ ap (λ r. all_true (map is_plain r)) made ∙ plain_last front m back (plain_parts xs first last x y m split front back f.plain b.plain (sym (plain_chunked c) ∙ all));
    }

-- the pieces are no longer than the rows that are asked for
pub fits_many : (c : Chunked Column) (start end first s last e : ℕ) → IsSpan (map len_of c.chunks) start end first s last e → first < last →
    (x y : Column) (m : List Column) → x ≡ get_or c.chunks first x → y ≡ get_or c.chunks last y → m ≡ slice_range c.chunks (first + 1) last →
    (front back : Column) → IsSliceOf x front s (len_of x) → IsSliceOf y back 0 e → total (map len_of (front ∷ (m ++ back ∷ []))) ≤ end - start
fits_many c start end first s last e span less x y m at_x at_y mid front back f b =
    let xs = c.chunks in
    let within : last < length xs = omega (arith, span.within, length-map xs len_of) in
    let split : Split xs first last x y m = split_twice xs first last x y m less within at_x at_y mid in
    let rows = rows_many xs start end first s last e span less x y m split at_x at_y front back f.rows b.rows in
    omega (arith, total_joined (front ∷ (m ++ back ∷ [])), ap length rows, length-take (end - start) (drop start (rows_in xs)))

-- the ledger
pub rise_one : (old mid new cuts bound cuts' cost greatest' : ℕ) → mid ≤ old + cuts * bound → new ≤ mid + cuts' * cost → cuts' ≤ cuts → cost ≤ greatest' → new ≤ old + cuts * (bound + greatest')
rise_one old mid new cuts bound cuts' cost greatest' h k m n = omega (arith, mul-le-mul m n)

pub rise_two : (old m1 m2 new cuts bound cuts1 cost1 cuts2 cost2 greatest' : ℕ) → m1 ≤ old + cuts * bound → m2 ≤ m1 + cuts1 * cost1 → new ≤ m2 + cuts2 * cost2 → cuts1 + cuts2 ≤ cuts → cost1 ≤ greatest' → cost2 ≤ greatest' →
    new ≤ old + cuts * (bound + greatest')
rise_two old m1 m2 new cuts bound cuts1 cost1 cuts2 cost2 greatest' h1 h2 h3 c n1 n2 =
    omega (arith, mul-le-mul_left cuts1 n1, mul-le-mul_left cuts2 n2, mul-le-mul c (le_refl greatest'))

pub same_at : (ys xs : List Column) (k : ℕ) (x : Column) → ys ≡ xs → x ≡ get_or ys k x → x ≡ get_or xs k x
same_at ys xs k x e at = at ∙ ap (λ (zs : List Column). get_or zs k x) e

pub held_at : (P : Column → Type 0) (ys : List Column) (k : ℕ) (x : Column) → All P ys → k < length ys → x ≡ get_or ys k x → P x
held_at P ys k x all h at = subst P (sym at) (all k x h)

pub total_is : (c : Chunked Column) → total (map len_of c.chunks) ≡ len_of (column.Chunked c)
total_is c = total_joined c.chunks ∙ ap length (sym (rows_chunked c))

pub len_fits : (c : Chunked Column) → IsSound (column.Chunked c) → len_of (column.Chunked c) < 2 ^ 64
len_fits c s = omega (arith, (chunks_here c s).fits, total_is c)

pub rise_inside : (c : Chunked Column) (start end first s last e : ℕ) → IsSpan (map len_of c.chunks) start end first s last e → first ≡ last →
    (x : Column) → x ≡ get_or c.chunks first x → (old mid new : ℕ) → mid ≤ old + ends_cut start end (len_of (column.Chunked c)) * search_bound (length c.chunks + 1) →
    new ≤ mid + ends_cut s e (len_of x) * cut_cost x → new ≤ old + ends_cut start end (len_of (column.Chunked c)) * cut_cost (column.Chunked c)
rise_inside c start end first s last e span same x at old mid new h k =
    let xs = c.chunks in
    let within : first < length xs = omega (arith, span.within, length-map xs len_of) in
    let all = total_is c in
    let long = len_at xs first x within at in
    let cuts : ends_cut s e (len_of x) ≤ ends_cut start end (len_of (column.Chunked c)) =
    ends_cut_within start end (len_of (column.Chunked c)) s e (len_of x) (λ z. omega (arith, span.front))
    (λ z. span.back_full (z ∙ sym all) ∙ ap (λ k. get_or (map len_of xs) k 0) (sym same) ∙ long) in
    subst (λ n. new ≤ old + ends_cut start end (len_of (column.Chunked c)) * n) (sym (cut_cost_is c))
    (rise_one old mid new (ends_cut start end (len_of (column.Chunked c))) (search_bound (length xs + 1)) (ends_cut s e (len_of x)) (cut_cost x) (greatest (map cut_cost xs)) h k cuts (greatest_at cut_cost xs first x within at))

pub rise_across : (c : Chunked Column) (start end first s last e : ℕ) → IsSpan (map len_of c.chunks) start end first s last e →
    (x y : Column) → x ≡ get_or c.chunks first x → y ≡ get_or c.chunks last y → (old mid front new : ℕ) →
    mid ≤ old + ends_cut start end (len_of (column.Chunked c)) * search_bound (length c.chunks + 1) → front ≤ mid + ends_cut s (len_of x) (len_of x) * cut_cost x →
    new ≤ front + ends_cut 0 e (len_of y) * cut_cost y → new ≤ old + ends_cut start end (len_of (column.Chunked c)) * cut_cost (column.Chunked c)
rise_across c start end first s last e span x y at_x at_y old mid front new h1 h2 h3 =
    let xs = c.chunks in
    let within : last < length xs = omega (arith, span.within, length-map xs len_of) in
    let within_first : first < length xs = omega (arith, span.ordered) in
    let all = total_is c in
    let cuts : ends_cut s (len_of x) (len_of x) + ends_cut 0 e (len_of y) ≤ ends_cut start end (len_of (column.Chunked c)) =
    ends_cut_across start end (len_of (column.Chunked c)) s (len_of x) e (len_of y) (λ z. omega (arith, span.front)) (λ z. span.back_full (z ∙ sym all) ∙ len_at xs last y within at_y) in
    subst (λ n. new ≤ old + ends_cut start end (len_of (column.Chunked c)) * n) (sym (cut_cost_is c))
    (rise_two old mid front new (ends_cut start end (len_of (column.Chunked c))) (search_bound (length xs + 1)) (ends_cut s (len_of x) (len_of x)) (cut_cost x) (ends_cut 0 e (len_of y)) (cut_cost y)
    (greatest (map cut_cost xs)) h1 h2 h3 cuts (greatest_at cut_cost xs first x within_first at_x) (greatest_at cut_cost xs last y within at_y))

-- where the first cut is refused
pub rise_front : (c : Chunked Column) (start end first s last e : ℕ) → IsSpan (map len_of c.chunks) start end first s last e →
    (x y : Column) → x ≡ get_or c.chunks first x → y ≡ get_or c.chunks last y → (old mid new : ℕ) →
    mid ≤ old + ends_cut start end (len_of (column.Chunked c)) * search_bound (length c.chunks + 1) → new ≤ mid + ends_cut s (len_of x) (len_of x) * cut_cost x →
    new ≤ old + ends_cut start end (len_of (column.Chunked c)) * cut_cost (column.Chunked c)
rise_front c start end first s last e span x y at_x at_y old mid new h1 h2 = rise_across c start end first s last e span x y at_x at_y old mid new new h1 h2 (omega arith)

-- what is found without a cut
pub rise_plan : (c : Chunked Column) (start end old new : ℕ) → new ≤ old + ends_cut start end (len_of (column.Chunked c)) * search_bound (length c.chunks + 1) →
    new ≤ old + ends_cut start end (len_of (column.Chunked c)) * cut_cost (column.Chunked c)
rise_plan c start end old new h =
    let least : search_bound (length c.chunks + 1) ≤ cut_cost (column.Chunked c) = omega (arith, cut_cost_is c) in
    omega (arith, h, mul-le-mul_left (ends_cut start end (len_of (column.Chunked c))) least)

-- all rows of a column are the column
pub whole_slice : (whole part : Column) (start end : ℕ) → part ≡ whole → IsSound whole → start ≡ 0 → end ≡ len_of whole → IsSliceOf whole part start end
whole_slice whole part start end same sound front back = subst (λ p. IsSliceOf whole p start end) (sym same) (record {
  sound = sound;
  dtype = refl;
  rows = sym (ap (λ n. slice_range (rows_of whole) n end) front ∙ sublist_whole (rows_of whole) end back);
  point = omega arith;
  cut = omega arith;
  lanes = omega arith;
  plain = λ all. all;
})

-- an empty column
pub empty_slice : (whole : Column) (rows : Flat) (t : DType) (at : ℕ) → rows ≡ flat t [] → IsFlat rows → t ≡ type_of whole → IsSliceOf whole (column.Flat rows) at at
empty_slice whole rows t at none fits typed = record {
  sound = sound_flat rows fits;
  dtype = type_flat rows ∙ ap (λ r. r.dtype) none ∙ typed;
  rows = rows_flat rows ∙ ap (λ r. r.rows) none ∙ sym (sublist_none (rows_of whole) at at refl);
  point = omega (arith, point_flat rows, point_least whole);
  cut = omega (arith, cut_flat rows);
  lanes = omega (arith, lane_flat rows);
  plain = λ _. plain_flat rows;
}

-- a window over a flat column
pub flat_slice : (whole : Column) (all rows : Flat) (start end : ℕ) → whole ≡ column.Flat all → rows ≡ flat all.dtype (slice_range all.rows start end) → IsFlat rows → IsSliceOf whole (column.Flat rows) start end
flat_slice whole all rows start end is cut fits = subst (λ w. IsSliceOf w (column.Flat rows) start end) (sym is)
    (record {
      sound = sound_flat rows fits;
      dtype = type_flat rows ∙ ap (λ r. r.dtype) cut ∙ sym (type_flat all);
      rows = rows_flat rows ∙ ap (λ r. r.rows) cut ∙ ap (λ r. slice_range r start end) (sym (rows_flat all));
      point = omega (arith, point_flat rows, point_flat all);
      cut = omega (arith, cut_flat rows);
      lanes = omega (arith, lane_flat rows);
      plain = λ _. plain_flat rows;
    })

pub all_push : (P : Column → Type 0) (xs : List Column) (x : Column) → AllByRecursion P xs → P x → AllByRecursion P (xs ++ x ∷ [])
all_push P [] x s p = (p, tt)
all_push P (y ∷ xs) x s p = (s.0, all_push P xs x s.1 p)

pub all_round : (P : Column → Type 0) (front : Column) (middle : List Column) (back : Column) → P front → All P middle → P back → All P (front ∷ (middle ++ back ∷ []))
all_round P front middle back f m b = All-from_recursion P (front ∷ (middle ++ back ∷ [])) (f, all_push P middle back (recursion_from_All P middle m) b)

pub all_more : (P : Column → Type 0) (xs : List Column) (k : ℕ) (x : Column) → k < length xs → x ≡ get_or xs k x → All P (take k xs) → P x → All P (take (k + 1) xs)
all_more P xs k x h e s p =
    let more : take k xs ++ x ∷ [] ≡ take (k + 1) xs = ap (λ y. take k xs ++ y ∷ []) e ∙ sym (take_more xs k x h) in
    subst (All P) more (All-from_recursion P (take k xs ++ x ∷ []) (all_push P (take k xs) x (recursion_from_All P (take k xs) s) p))

get_or_after : {A : Type 0} (p q : List A) (n : ℕ) (d : A) → get_or (p ++ q) (length p + n) d ≡ get_or q n d
get_or_after [] q n d = ap (λ m. get_or q m d) (omega arith)
get_or_after (x ∷ p) q n d =
    let next : length (x ∷ p) + n ≡ suc (length p + n) = omega arith in
    ap (λ m. get_or (x ∷ (p ++ q)) m d) next ∙ get_or_after p q n d

get_or_before : {A : Type 0} (x q : List A) (n : ℕ) (d : A) → n < length x → get_or (x ++ q) n d ≡ get_or x n d
get_or_before [] q n d h = absurd (omega arith)
get_or_before (y ∷ x) q zero d h = refl
get_or_before (y ∷ x) q (suc n) d h = get_or_before x q n d (omega arith)

-- a row of the whole is a row of the chunk that holds it
pub row_in : (c : Chunked Column) (k place at : ℕ) (x : Column) → x ≡ get_or c.chunks k x → k < length c.chunks → place < len_of x → total (take k (map len_of c.chunks)) + place ≡ at →
    get_or (rows_of (column.Chunked c)) at None ≡ get_or (rows_of x) place None
row_in c k place at x at_x h in_x e =
    let xs = c.chunks in
    let p = take k xs in
    let q = drop (k + 1) xs in
    let whole : rows_of (column.Chunked c) ≡ rows_in p ++ (rows_of x ++ rows_in q) = rows_chunked c ∙ ap rows_in (split_at xs k x h at_x) ∙ rows-append p (x ∷ q) in
    let index : at ≡ length (rows_in p) + place = omega (arith, e, rows_before xs k) in
    ap (λ rows. get_or rows at None) whole ∙ ap (λ n. get_or (rows_in p ++ (rows_of x ++ rows_in q)) n None) index ∙ get_or_after (rows_in p) (rows_of x ++ rows_in q) place None
    ∙ get_or_before (rows_of x) (rows_in q) place None in_x

pub rows_more : (xs : List Column) (k : ℕ) (x : Column) → k < length xs → x ≡ get_or xs k x → rows_in (take (k + 1) xs) ≡ rows_in (take k xs) ++ rows_of x
rows_more xs k x h e =
    ap rows_in (take_more xs k x h ∙ ap (λ y. take k xs ++ y ∷ []) (sym e)) ∙ rows-append (take k xs) (x ∷ []) ∙ ap (λ r. rows_in (take k xs) ++ r) (append-nil (rows_of x))

pub rows_part : (xs : List Column) (k : ℕ) → length (rows_in (take k xs)) ≤ length (rows_in xs)
rows_part xs k = omega (arith, ap (λ ys. length (rows_in ys)) (take-append-drop k xs), ap length (rows-append (take k xs) (drop k xs)), length-append (rows_in (take k xs)) (rows_in (drop k xs)))

-- to cut places costs at most two searches
places_cheap : (index : Index) → places_cut_cost index ≤ 2 * search_cost index
places_cheap index = by_offsets index.chunk_offsets (length (indices_of index))
  where
    by_offsets : (offsets : Option Flat) (m : ℕ) → offset_reads offsets + comparisons offsets m + front_reads offsets ≤ 2 * (offset_reads offsets + comparisons offsets m)
    by_offsets None m = omega arith
    by_offsets (Some offsets) m = omega arith

-- a cut costs at most two reads
abbrev IsCheap : Column → Type 0
IsCheap x = cut_cost x ≤ 2 * point_cost x

cheap_all : (es : List ((x : Column) × IsCheap x)) → greatest (map cut_cost (map (λ e. e.0) es)) ≤ 2 * greatest (map point_cost (map (λ e. e.0) es))
cheap_all [] = omega arith
cheap_all (e ∷ es) = omega (arith, e.1, cheap_all es)

cheap_layer : (y : Column-F ((x : Column) × IsCheap x)) → IsCheap (roll-Column (map-Column ((x : Column) × IsCheap x) Column (λ e. e.0) y))
cheap_layer (Column-F.Flat rows) = subst IsCheap (sym (rolls-Flat rows)) (omega (arith, cut_flat rows))
cheap_layer (Column-F.Chunked c) =
    let whole : Chunked Column = record { dtype = c.dtype; boundaries = c.boundaries; chunks = map (λ e. e.0) c.chunks; slots = map (λ e. e.0) c.slots } in
    subst IsCheap (sym (rolls-Chunked whole)) (omega (arith, cut_cost_is whole, point_cost_is whole, cheap_all c.chunks))
cheap_layer (Column-F.Patched p) =
    let whole : Patched Column = record { inner = p.inner.0; lanes = p.lanes; slots = map (λ e. e.0) p.slots } in
    subst IsCheap (sym (rolls-Patched whole)) (omega (arith, cut_patched whole, point_patched whole, p.inner.1))
cheap_layer (Column-F.Excepted x) =
    let whole : Excepted Column = record { base = x.base.0; index = x.index; values = x.values.0; slots = map (λ e. e.0) x.slots } in
    subst IsCheap (sym (rolls-Excepted whole)) (omega (arith, cut_excepted whole, point_excepted whole, places_cheap x.index, x.base.1, x.values.1))
cheap_layer (Column-F.Interleave i) =
    let whole : Interleave Column = record { dtype = i.dtype; selectors = i.selectors; values = map (λ e. e.0) i.values; slots = map (λ e. e.0) i.slots } in
    subst IsCheap (sym (rolls-Interleave whole)) (omega (arith, cut_interleave whole))

pub cut_at_most_twice : (x : Column) → cut_cost x ≤ 2 * point_cost x
cut_at_most_twice = ind-Column IsCheap (λ x y e. subst (λ l. IsCheap (roll-Column l)) e (cheap_layer y))
