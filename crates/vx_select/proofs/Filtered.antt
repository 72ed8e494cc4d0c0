-- Rows that filters keep of chunks, end to end by chunk.
use Rattle.std.proofs.Common.{arith, refl, sym, ◌∙◌, ap, subst, ◌≡◌, ◌<◌, ◌≤◌, ◌+◌, ◌-◌, ◌*◌, ℕ, zero, suc, List, [], ◌∷◌, ◌++◌, map, length, get_or, take, Option, None, IsTrue, append-nil, length-append}
use Rattle.std.proofs.Math.Nat.{mul-le-mul, mul-le-mul_left, le_refl}
use Rattle.std.proofs.lemmas.Grind.{flat_map-append}
use Rattle.std.proofs.lemmas.List.{take_more, take_all, map-append, length-map, length-take-le}
use Rattle.std.proofs.lemmas.List.Elements.{All-append}
use Rattle.std.proofs.lemmas.List.Folds.{length-flat_map-take}
use Rattle.std.proofs.lemmas.List.FromFn.{length-range_with_len}
use Rattle.std.proofs.lemmas.Slice.Zip.{AllZip-long}
use Rattle.std.specs.List.{All, AllZip, range_with_len, slice_range}
use Rattle.vx_rows.specs.Fits.{rows_fit}
use Rattle.vx_rows.specs.declared.dtype.DType.{DType}
use Rattle.vx_rows.specs.declared.value.Value.{Value}
use Rattle.vx_chunks.specs.Bounds.{total}
use Rattle.vx_chunk_plans.specs.Laid.{laid_from}
use Rattle.vx_chunk_plans.specs.Filters.{slice_places, kept_places, kept_rows, IsSliceOf, KeepsWithin}
use Rattle.vx_chunk_plans.specs.declared.filter.ChunkFilter.{ChunkFilter}
use Rattle.vx_chunk_plans.specs.declared.filter.ChunkFilter.TheVariants as filter
use Rattle.vx_chunk_plans.proofs.Laying.{shifted, laid_push}
use Rattle.vx_job.specs.Rows.{Rows, picked, greatest}
use Rattle.vx_column.specs.Columns.{IsSound, IsOf, rows_of, len_of, type_of, point_cost, lane_cost, select_bound}
use Rattle.vx_column.specs.declared.chunked.Chunked.{Chunked}
use Rattle.vx_column.specs.declared.column.Column.{Column}
use Rattle.vx_column.specs.declared.column.Column.TheVariants as column
use Rattle.vx_column.proofs.Layers.{chunks_here, type_chunked, lane_chunked}
use Rattle.vx_column.proofs.Cuts.{row_in, len_at, held_at, same_at, greatest_at, point_cost_is}
use Rattle.vx_select.specs.Spots.{AreBelow}
use Rattle.vx_select.specs.Ranges.{IsRangeOf}
use Rattle.vx_select.proofs.Chosen.{run_below}
use Rattle.vx_select.proofs.Fits.{fits_both, fits_picked}
use Rattle.vx_select.proofs.Ranges.{picked_range}

-- ---- slices

abbrev slice_range_of : ℕ × ℕ → List ℕ
slice_range_of slice = range_with_len slice.0 (slice.1 - slice.0)

-- slices that aren't empty are ranges
pub slices_ranges : (n : ℕ) (slices : List (ℕ × ℕ)) → All (IsSliceOf n) slices → All (IsRangeOf n) slices
slices_ranges n slices all = λ i d h. let slice = all i d h in (omega (arith, slice.0), slice.1)

pub ranges_ordered : (n : ℕ) (slices : List (ℕ × ℕ)) → All (IsRangeOf n) slices → All (λ (slice : ℕ × ℕ). slice.0 ≤ slice.1) slices
ranges_ordered n slices all = λ i d h. (all i d h).0

-- and so is all of n rows
pub whole_range : (n : ℕ) (slices : List (ℕ × ℕ)) → slices ≡ (0, n) ∷ [] → All (IsRangeOf n) slices
whole_range n slices e = subst (All (IsRangeOf n)) (sym e) one
  where
    one : All (IsRangeOf n) ((0, n) ∷ [])
    one zero d h = (omega arith, omega arith)
    one (suc i) d h = absurd (omega arith)

-- the places of ranges of n rows are below n
pub ranges_below : (n : ℕ) (slices : List (ℕ × ℕ)) → All (IsRangeOf n) slices → AreBelow n (slice_places slices)
ranges_below n [] all = λ i d h. absurd (omega arith)
ranges_below n (slice ∷ slices) all =
    let first = all 0 slice (omega arith) in
    All-append (λ p. p < n) (slice_range_of slice) (slice_places slices) (run_below n slice.0 (slice.1 - slice.0) (λ some. omega (arith, first.0, first.1)))
    (ranges_below n slices (λ i d h. all (suc i) d (omega arith)))

-- one slice more
pub slices_next : (slices : List (ℕ × ℕ)) (i : ℕ) (d : ℕ × ℕ) → i < length slices → slice_places (take (i + 1) slices) ≡ slice_places (take i slices) ++ slice_range_of (get_or slices i d)
slices_next slices i d h =
    ap slice_places (take_more slices i d h) ∙ flat_map-append slice_range_of (take i slices) (get_or slices i d ∷ [])
    ∙ ap (λ ns. slice_places (take i slices) ++ ns) (append-nil (slice_range_of (get_or slices i d)))

pub slices_more : (slices : List (ℕ × ℕ)) (i : ℕ) (d : ℕ × ℕ) → i < length slices →
    length (slice_places (take (i + 1) slices)) ≡ length (slice_places (take i slices)) + ((get_or slices i d).1 - (get_or slices i d).0)
slices_more slices i d h =
    let slice = get_or slices i d in
    omega (arith, ap length (slices_next slices i d h), length-append (slice_places (take i slices)) (slice_range_of slice), length-range_with_len slice.0 (slice.1 - slice.0))

pub slices_few : (slices : List (ℕ × ℕ)) (i : ℕ) (d : ℕ × ℕ) → i < length slices →
    length (slice_places (take i slices)) + ((get_or slices i d).1 - (get_or slices i d).0) ≤ length (slice_places slices)
slices_few slices i d h =
    let slice = get_or slices i d in
    omega (arith, length-flat_map-take slice_range_of slices i d h, length-range_with_len slice.0 (slice.1 - slice.0))

-- the rows of one slice more
pub slice_rows : (rows : Rows) (slices : List (ℕ × ℕ)) (i : ℕ) (d : ℕ × ℕ) → All (IsRangeOf (length rows)) slices → i < length slices →
    picked rows (slice_places (take (i + 1) slices)) ≡ picked rows (slice_places (take i slices)) ++ slice_range rows (get_or slices i d).0 (get_or slices i d).1
slice_rows rows slices i d all h =
    let slice = get_or slices i d in
    let range = all i d h in
    let end : slice.0 + (slice.1 - slice.0) ≡ slice.1 = omega (arith, range.0) in
    ap (picked rows) (slices_next slices i d h) ∙ map-append (λ n. get_or rows n None) (slice_places (take i slices)) (slice_range_of slice)
    ∙ ap (λ (more : Rows). picked rows (slice_places (take i slices)) ++ more) (picked_range rows slice.0 (slice.1 - slice.0) (omega (arith, end, range.1)) ∙ ap (slice_range rows slice.0) end)

-- ---- filters

-- what is kept of a chunk lies in it
pub kept_below : (n : ℕ) (f : ChunkFilter) → KeepsWithin n f → AreBelow n (kept_places n f)
kept_below n filter.All within = run_below n 0 n (λ some. omega arith)
kept_below n filter.None within = λ i d h. absurd (omega arith)
kept_below n (filter.Slices slices) within = ranges_below n slices (slices_ranges n slices within)
kept_below n (filter.Indices indices) within = within

pub keeps_at : (lens : List ℕ) (filters : List ChunkFilter) (k d : ℕ) (f : ChunkFilter) → AllZip KeepsWithin lens filters → k < length lens → KeepsWithin (get_or lens k d) (get_or filters k f)
keeps_at [] filters k d f zip h = absurd (omega arith)
keeps_at (n ∷ lens) [] k d f zip h = absurd zip
keeps_at (n ∷ lens) (g ∷ filters) zero d f zip h = zip.0
keeps_at (n ∷ lens) (g ∷ filters) (suc k) d f zip h = keeps_at lens filters k d f zip.1 (omega arith)

-- one chunk more
kept_next : (lens : List ℕ) (filters : List ChunkFilter) (k n : ℕ) (f : ChunkFilter) → AllZip KeepsWithin lens filters → k < length lens → get_or lens k 0 ≡ n → f ≡ get_or filters k f →
    kept_rows (take (k + 1) lens) (take (k + 1) filters) ≡ kept_rows (take k lens) (take k filters) ++ shifted (total (take k lens)) (kept_places n f)
kept_next lens filters k n f zip h n_is f_is =
    let long : length filters ≡ length lens = AllZip-long KeepsWithin lens filters zip in
    let same : length (take k filters) ≡ length (take k lens) = length-take-le k filters (omega arith) ∙ sym (length-take-le k lens (omega arith)) in
    let from : 0 + total (take k lens) ≡ total (take k lens) = omega arith in
    ap (λ ns. kept_rows ns (take (k + 1) filters)) (take_more lens k 0 h ∙ ap (λ m. take k lens ++ m ∷ []) n_is)
    ∙ ap (λ fs. kept_rows (take k lens ++ n ∷ []) fs) (take_more filters k f (omega arith) ∙ ap (λ g. take k filters ++ g ∷ []) (sym f_is))
    ∙ laid_push kept_places 0 (take k lens) (take k filters) n f same
    ∙ ap (λ b. kept_rows (take k lens) (take k filters) ++ shifted b (kept_places n f)) from

laid_few : {P : Type 0} (places : ℕ → P → List ℕ) (at : ℕ) (lens : List ℕ) (pieces : List P) (k : ℕ) →
    length (laid_from places at (take k lens) (take k pieces)) ≤ length (laid_from places at lens pieces)
laid_few places at lens pieces zero = omega arith
laid_few places at [] pieces (suc k) = omega arith
laid_few places at (n ∷ lens) [] (suc k) = omega arith
laid_few places at (n ∷ lens) (p ∷ pieces) (suc k) =
    omega (
      arith,
      laid_few places (at + n) lens pieces k,
      length-append (shifted at (places n p)) (laid_from places (at + n) (take k lens) (take k pieces)),
      length-append (shifted at (places n p)) (laid_from places (at + n) lens pieces),
    )

-- ---- rows

-- rows of the whole at places of a chunk are rows of the chunk
picked_shifted : (c : Chunked Column) (k : ℕ) (x : Column) (places : List ℕ) → x ≡ get_or c.chunks k x → k < length c.chunks → AreBelow (len_of x) places →
    picked (rows_of (column.Chunked c)) (shifted (total (take k (map len_of c.chunks))) places) ≡ picked (rows_of x) places
picked_shifted c k x [] e h below = refl
picked_shifted c k x (p ∷ places) e h below =
    let at = total (take k (map len_of c.chunks)) in
    let here = row_in c k p (at + p) x e h (below 0 0 (omega arith)) refl in
    ap (λ (row : Option Value). row ∷ picked (rows_of (column.Chunked c)) (shifted at places)) here
    ∙ ap (λ (rows : Rows). get_or (rows_of x) p None ∷ rows) (picked_shifted c k x places e h (λ i d l. below (suc i) d (omega arith)))

-- what filters keep of the first chunks, as rows of the whole
abbrev pub kept_before : Chunked Column → List ChunkFilter → ℕ → List ℕ
kept_before c filters k = kept_rows (take k (map len_of c.chunks)) (take k filters)

-- a chunk, its number, its filter
pub record IsTurn (c : Chunked Column) (filters : List ChunkFilter) (k : ℕ) (x : Column) (f : ChunkFilter) : Type 0 where
  pub zip : AllZip KeepsWithin (map len_of c.chunks) filters
  pub inside : k < length c.chunks
  pub chunk : x ≡ get_or c.chunks k x
  pub filter : f ≡ get_or filters k f

pub turn_inside : (c : Chunked Column) (filters : List ChunkFilter) (k : ℕ) → AllZip KeepsWithin (map len_of c.chunks) filters → k < length filters → k < length c.chunks
turn_inside c filters k zip h = omega (arith, h, AllZip-long KeepsWithin (map len_of c.chunks) filters zip, length-map c.chunks len_of)

pub turn_at : (c : Chunked Column) (filters : List ChunkFilter) (xs : List Column) (k : ℕ) (x : Column) (f : ChunkFilter) → AllZip KeepsWithin (map len_of c.chunks) filters → k < length filters →
    xs ≡ c.chunks → x ≡ get_or xs k x → f ≡ get_or filters k f → IsTurn c filters k x f
turn_at c filters xs k x f zip h same at filter_at = record {
  zip = zip;
  inside = turn_inside c filters k zip h;
  chunk = same_at xs c.chunks k x same at;
  filter = filter_at;
}

pub turn_within : (c : Chunked Column) (filters : List ChunkFilter) (k : ℕ) (x : Column) (f : ChunkFilter) → IsTurn c filters k x f → KeepsWithin (len_of x) f
turn_within c filters k x f turn =
    let inside : k < length (map len_of c.chunks) = omega (arith, turn.inside, length-map c.chunks len_of) in
    subst (λ g. KeepsWithin (len_of x) g) (sym turn.filter)
    (subst (λ n. KeepsWithin n (get_or filters k f)) (len_at c.chunks k x turn.inside turn.chunk) (keeps_at (map len_of c.chunks) filters k 0 f turn.zip inside))

turn_next : (c : Chunked Column) (filters : List ChunkFilter) (k : ℕ) (x : Column) (f : ChunkFilter) → IsTurn c filters k x f →
    kept_before c filters (k + 1) ≡ kept_before c filters k ++ shifted (total (take k (map len_of c.chunks))) (kept_places (len_of x) f)
turn_next c filters k x f turn =
    let inside : k < length (map len_of c.chunks) = omega (arith, turn.inside, length-map c.chunks len_of) in
    kept_next (map len_of c.chunks) filters k (len_of x) f turn.zip inside (len_at c.chunks k x turn.inside turn.chunk) turn.filter

-- the rows of one chunk more
pub rows_next : (c : Chunked Column) (filters : List ChunkFilter) (k : ℕ) (x : Column) (f : ChunkFilter) (out more : Rows) → IsTurn c filters k x f →
    out ≡ picked (rows_of (column.Chunked c)) (kept_before c filters k) → more ≡ out ++ picked (rows_of x) (kept_places (len_of x) f) →
    more ≡ picked (rows_of (column.Chunked c)) (kept_before c filters (k + 1))
rows_next c filters k x f out more turn before e =
    let all = rows_of (column.Chunked c) in
    let places = kept_places (len_of x) f in
    let at = total (take k (map len_of c.chunks)) in
    e ∙ ap (λ (rows : Rows). rows ++ picked (rows_of x) places) before
    ∙ ap (λ (rows : Rows). picked all (kept_before c filters k) ++ rows) (sym (picked_shifted c k x places turn.chunk turn.inside (kept_below (len_of x) f (turn_within c filters k x f turn))))
    ∙ sym (map-append (λ n. get_or all n None) (kept_before c filters k) (shifted at places)) ∙ ap (picked all) (sym (turn_next c filters k x f turn))

pub all_before : (c : Chunked Column) (filters : List ChunkFilter) (k : ℕ) → AllZip KeepsWithin (map len_of c.chunks) filters → length filters ≤ k → kept_before c filters k ≡ kept_rows (map len_of c.chunks) filters
all_before c filters k zip h =
    let long : length filters ≡ length (map len_of c.chunks) = AllZip-long KeepsWithin (map len_of c.chunks) filters zip in
    ap (λ ns. kept_rows ns (take k filters)) (take_all k (map len_of c.chunks) (omega arith)) ∙ ap (kept_rows (map len_of c.chunks)) (take_all k filters h)

-- they fit the type
pub fits_next : (c : Chunked Column) (k : ℕ) (x : Column) (out rows more : Rows) → IsSound (column.Chunked c) → k < length c.chunks → x ≡ get_or c.chunks k x →
    IsTrue (rows_fit (type_of (column.Chunked c)) out) → IsTrue (rows_fit (type_of x) rows) → more ≡ out ++ rows → IsTrue (rows_fit (type_of (column.Chunked c)) more)
fits_next c k x out rows more s h at before fits e =
    let t = type_of (column.Chunked c) in
    let same : type_of x ≡ t = held_at (IsOf c.dtype) c.chunks k x (chunks_here c s).types h at ∙ sym (type_chunked c) in
    subst (λ (r : Rows). IsTrue (rows_fit t r)) (sym e) (fits_both t out rows before (subst (λ (u : DType). IsTrue (rows_fit u rows)) same fits))

-- ---- costs

total_append : (f : Column → ℕ) (xs ys : List Column) → total (map f (xs ++ ys)) ≡ total (map f xs) + total (map f ys)
total_append f [] ys = omega arith
total_append f (x ∷ xs) ys = omega (arith, total_append f xs ys)

total_more : (f : Column → ℕ) (xs : List Column) (k : ℕ) (x : Column) → k < length xs → x ≡ get_or xs k x → total (map f (take (k + 1) xs)) ≡ total (map f (take k xs)) + f x
total_more f xs k x h e =
    let more : take (k + 1) xs ≡ take k xs ++ x ∷ [] = take_more xs k x h ∙ ap (λ y. take k xs ++ y ∷ []) (sym e) in
    let one : total (map f (x ∷ [])) ≡ f x = omega arith in
    ap (λ ys. total (map f ys)) more ∙ total_append f (take k xs) (x ∷ []) ∙ ap (λ n. total (map f (take k xs)) + n) one

total_front : (f : Column → ℕ) (k : ℕ) (xs : List Column) → total (map f (take k xs)) ≤ total (map f xs)
total_front f zero xs = omega arith
total_front f (suc k) [] = omega arith
total_front f (suc k) (x ∷ xs) = omega (arith, total_front f k xs)

step : (old mid new a b p most s t : ℕ) → mid ≤ old + (8 * a * most + s) → new ≤ mid + (8 * b * p + t) → p ≤ most → new ≤ old + (8 * (a + b) * most + (s + t))
step old mid new a b p most s t h k l = omega (arith, h, k, mul-le-mul_left (8 * b) l)

-- the most that so many rows of the first chunks cost
abbrev pub bound_before : Chunked Column → List ChunkFilter → ℕ → ℕ
bound_before c filters k = 8 * length (kept_before c filters k) * point_cost (column.Chunked c) + total (map lane_cost (take k c.chunks))

pub cost_next : (c : Chunked Column) (filters : List ChunkFilter) (k : ℕ) (x : Column) (f : ChunkFilter) (old mid new : ℕ) → IsTurn c filters k x f →
    mid ≤ old + bound_before c filters k → new ≤ mid + select_bound x (length (kept_places (len_of x) f)) → new ≤ old + bound_before c filters (k + 1)
cost_next c filters k x f old mid new turn rise read =
    let most = point_cost (column.Chunked c) in
    let places = kept_places (len_of x) f in
    let at = total (take k (map len_of c.chunks)) in
    let here : point_cost x ≤ most = omega (arith, greatest_at point_cost c.chunks k x turn.inside turn.chunk, point_cost_is c) in
    let many : length (kept_before c filters (k + 1)) ≡ length (kept_before c filters k) + length places =
    ap length (turn_next c filters k x f turn) ∙ length-append (kept_before c filters k) (shifted at places) ∙ ap (λ n. length (kept_before c filters k) + n) (length-map places (λ p. at + p)) in
    let lanes = total_more lane_cost c.chunks k x turn.inside turn.chunk in
    let next = step old mid new (length (kept_before c filters k)) (length places) (point_cost x) most (total (map lane_cost (take k c.chunks))) (lane_cost x) rise read here in
    subst (λ n. new ≤ old + (8 * n * most + total (map lane_cost (take (k + 1) c.chunks)))) (sym many)
    (subst (λ n. new ≤ old + (8 * (length (kept_before c filters k) + length places) * most + n)) (sym lanes) next)

-- the first chunks cost no more than all
pub cost_all : (c : Chunked Column) (filters : List ChunkFilter) (k old new : ℕ) → new ≤ old + bound_before c filters k →
    new ≤ old + select_bound (column.Chunked c) (length (kept_rows (map len_of c.chunks) filters))
cost_all c filters k old new rise =
    let most = point_cost (column.Chunked c) in
    let all = length (kept_rows (map len_of c.chunks) filters) in
    let few : 8 * length (kept_before c filters k) ≤ 8 * all = omega (arith, laid_few kept_places 0 (map len_of c.chunks) filters k) in
    omega (arith, rise, total_front lane_cost k c.chunks, lane_chunked c, mul-le-mul few (le_refl most))
