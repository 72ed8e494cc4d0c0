-- Slices of places.
use Rattle.std.proofs.Common.{◌≡◌, ℕ, ◌+◌, ◌-◌, ◌≤◌, ◌<◌, ◌≢◌, inl, inr, Bool, List, [], ◌∷◌, take, drop, length, get_or, map, refl, sym, ◌∙◌, ap, subst, arith}
use Rattle.std.specs.Prelude.{Option, Some, None}
use Rattle.std.specs.List.{filter, slice_range}
use Rattle.std.specs.List.Sorted.{IsStrictlyIncreasing}
use Rattle.std.proofs.lemmas.Bool.{cases_Bool, cond-true, cond-false}
use Rattle.std.proofs.lemmas.List.{get_or-map, length-map, take_all, take-map, drop-map}
use Rattle.vx_rows.specs.declared.value.Value.{Value}
use Rattle.vx_base.specs.Column.{Flat, flat}
use Rattle.vx_base.specs.Numbers.{numbers_of, row_int, magnitude}
use Rattle.vx_base.specs.Checks.{count_below}
use Rattle.vx_patches.specs.Places.{Index, IsIndex, HaveChunks, HaveChunkOffsets, indices_of, rows_of}
use Rattle.vx_patches.specs.Slices.{lies_inside, rows_inside, place_of, chunk_at, chunk_from, window, offsets_after, within_after, cut_away, part_of, IsSliceOf}
use Rattle.vx_patches.proofs.Counts.{Rising, Rising-from_increasing, rise-le, count_is, count-le, count-le-length, count-rows, below_count, above_count, above_first, get_or-slice, length-slice, increasing_slice}
use Rattle.vx_patches.proofs.Insides.{filter_rising}
use Rattle.vx_patches.proofs.Chunks.{Cut, cut_of, sliced}
use Rattle.vx_patches.proofs.Searches.{chunks_of}

pub slice_map : {A B : Type 0} (f : A → B) (xs : List A) (p q : ℕ) → map f (slice_range xs p q) ≡ slice_range (map f xs) p q
slice_map f xs p q = sym (ap (take (q - p)) (drop-map f p xs) ∙ take-map f (q - p) (drop p xs))

pub slice_numbers : (rs : List (Option Value)) (p q : ℕ) → numbers_of (slice_range rs p q) ≡ slice_range (numbers_of rs) p q
slice_numbers rs p q = slice_map (λ r. magnitude (row_int r)) rs p q

pub rows_twice : (offset s : ℕ) (xs : List ℕ) → map (λ n. n - (offset + s)) xs ≡ map (λ n. n - s) (map (λ n. n - offset) xs)
rows_twice offset s [] = refl
rows_twice offset s (x ∷ xs) =
    let less : x - (offset + s) ≡ x - offset - s = omega arith in
    ap (λ (n : ℕ). n ∷ map (λ n. n - (offset + s)) xs) less ∙ ap (λ (ns : List ℕ). (x - offset - s) ∷ ns) (rows_twice offset s xs)

filter_of_map : {A B : Type 0} (f : A → B) (p : B → Bool) (xs : List A) → filter p (map f xs) ≡ map f (filter (λ x. p (f x)) xs)
filter_of_map f p [] = refl
filter_of_map f p (x ∷ xs) =
    let rest = filter_of_map f p xs in
    elim (cases_Bool (p (f x))) as (λ _. filter p (map f (x ∷ xs)) ≡ map f (filter (λ x. p (f x)) (x ∷ xs))) [
      | inl is_in ↦ cond-true _ (f x ∷ filter p (map f xs)) _ is_in ∙ ap (λ ys. f x ∷ ys) rest ∙ sym (ap (map f) (cond-true _ (x ∷ filter (λ x. p (f x)) xs) _ is_in))
      | inr is_out ↦ cond-false _ (f x ∷ filter p (map f xs)) _ is_out ∙ rest ∙ sym (ap (map f) (cond-false _ (x ∷ filter (λ x. p (f x)) xs) _ is_out))
    ]

pub rising_rows : (offset : ℕ) (xs : List ℕ) → IsStrictlyIncreasing xs → offset ≤ get_or xs 0 0 → Rising (map (λ n. n - offset) xs)
rising_rows offset xs r h i j l k =
    let f = λ (n : ℕ). n - offset in
    let inside : j < length xs = omega (arith, length-map xs f) in
    omega (arith, get_or-map f xs i 0 0 (omega arith), get_or-map f xs j 0 0 inside, rise-le xs r i j (omega arith) inside, above_first offset xs r h i (omega arith))

-- the rows of a part are the rows inside, less start
rows_kept : (offset s e : ℕ) (xs : List ℕ) → IsStrictlyIncreasing xs → offset ≤ get_or xs 0 0 → s ≤ e →
    map (λ n. n - (offset + s)) (slice_range xs (count_below s (map (λ n. n - offset) xs)) (count_below e (map (λ n. n - offset) xs))) ≡ rows_inside s e (map (λ n. n - offset) xs)
rows_kept offset s e xs r h k =
    let f = λ (n : ℕ). n - offset in
    let part = slice_range xs (count_below s (map f xs)) (count_below e (map f xs)) in
    let chosen : filter (λ n. lies_inside s e (f n)) xs ≡ part = filter_rising f s e k xs (rising_rows offset xs r h) in
    rows_twice offset s part ∙ ap (λ (ns : List ℕ). map (λ n. n - s) (map f ns)) (sym chosen) ∙ ap (map (λ n. n - s)) (sym (filter_of_map f (lies_inside s e) xs))

-- the two places of a slice
pub record Ends (index : Index) (s e p q : ℕ) : Type 0 where
  pub from : count_below (index.offset + s) (indices_of index) ≡ p
  pub to : count_below (index.offset + e) (indices_of index) ≡ q
  pub apart : p < q
  pub some : s < e
  pub top : q ≤ length (indices_of index)

pub place_count : (index : Index) → IsIndex index → (row p : ℕ) → p ≡ place_of row (rows_of index) → count_below (index.offset + row) (indices_of index) ≡ p
place_count index i row p e =
    let turned : index.offset + row ≡ row + index.offset = omega arith in
    ap (λ n. count_below n (indices_of index)) turned ∙ sym (count-rows row index.offset (indices_of index) (above_first index.offset (indices_of index) i.rising i.above)) ∙ sym e

pub ends_of : (index : Index) → IsIndex index → (s e p q : ℕ) → s ≤ e → p ≡ place_of s (rows_of index) → q ≡ place_of e (rows_of index) → p ≢ q → Ends index s e p q
ends_of index i s e p q h from to apart =
    let low = place_count index i s p from in
    let high = place_count index i e q to in
    let xs = indices_of index in
    let rising : Rising xs = Rising-from_increasing xs i.rising in
    let order : p ≤ q = omega (arith, count-le (index.offset + s) (index.offset + e) xs rising (omega arith)) in
    let differ : s ≢ e = λ z. apart (from ∙ ap (λ n. place_of n (rows_of index)) z ∙ sym to) in
    record { from = low; to = high; apart = omega arith; some = omega arith; top = omega (arith, count-le-length (index.offset + e) xs) }

chunks_kept : (len offset : ℕ) (xs : List ℕ) (o : Option Flat) (w s e p q : ℕ) → HaveChunks len offset xs o w → IsStrictlyIncreasing xs → s < e → e ≤ len →
    count_below (offset + s) xs ≡ p → p < q → q ≤ length xs → HaveChunks (e - s) (offset + s) (slice_range xs p q) (offsets_after o offset s e) (within_after o w offset s p)
chunks_kept len offset xs None w s e p q h r k l from some top = refl
chunks_kept len offset xs (Some c) w s e p q h r k l from some top = (
  h.0,
  subst (λ (co : List ℕ). HaveChunkOffsets (e - s) (offset + s) (slice_range xs p q) co (cut_away (numbers_of c.rows) w p (chunk_at offset s))) (sym (slice_numbers c.rows (chunk_at offset s) (chunk_from offset e)))
      (sliced len offset xs (numbers_of c.rows) w s e p q h.1 r k l from some top),
)

-- a part with exceptions left
pub slice_made : (index : Index) → IsIndex index → (s e p q : ℕ) → e ≤ index.len → p ≡ place_of s (rows_of index) → q ≡ place_of e (rows_of index) → Ends index s e p q →
    IsSliceOf index (part_of index s e p q) s e p q
slice_made index i s e p q h from to n =
    let xs = indices_of index in
    let rising : Rising xs = Rising-from_increasing xs i.rising in
    let long : length (slice_range xs p q) ≡ q - p = length-slice xs p q n.top in
    let first : get_or (slice_range xs p q) 0 0 ≡ get_or xs (p + 0) 0 = get_or-slice xs p q 0 0 (omega (arith, n.apart)) in
    let zeroth : p + 0 ≡ p = omega arith in
    let place : length (slice_range xs p q) - 1 ≡ q - p - 1 = omega arith in
    let final : p + (q - p - 1) ≡ q - 1 = omega (arith, n.apart) in
    let last : get_or (slice_range xs p q) (length (slice_range xs p q) - 1) 0 ≡ get_or xs (q - 1) 0 =
    ap (λ k. get_or (slice_range xs p q) k 0) place ∙ get_or-slice xs p q (q - p - 1) 0 (omega (arith, n.apart)) ∙ ap (λ k. get_or xs k 0) final in
    let same : slice_range xs p q ≡ numbers_of (slice_range index.indices.rows p q) = sym (slice_numbers index.indices.rows p q) in
    let above : index.offset + s ≤ get_or (slice_range xs p q) 0 0 =
    omega (arith, first, ap (λ k. get_or xs k 0) zeroth, above_count (index.offset + s) xs rising p (omega (arith, n.from)) (omega (arith, n.apart, n.top))) in
    let below : get_or (slice_range xs p q) (length (slice_range xs p q) - 1) 0 < index.offset + s + (e - s) =
    omega (arith, last, n.some, below_count (index.offset + e) xs rising (q - 1) (omega (arith, n.apart, n.to))) in
    record {
      from = from;
      to = to;
      is = refl;
      rows = ap (map (λ n. n - (index.offset + s))) (sym same) ∙ ap (λ (a : ℕ). map (λ n. n - (index.offset + s)) (slice_range xs a q)) from ∙ ap (λ (b : ℕ). map (λ n. n - (index.offset + s)) (slice_range xs (place_of s (rows_of index)) b)) to
          ∙ rows_kept index.offset s e xs i.rising i.above (omega (arith, n.some));
      sound = record {
        short = omega (arith, i.short, n.some);
        unsigned = i.unsigned;
        some = omega (arith, n.apart, long, ap length same);
        rising = subst IsStrictlyIncreasing same (increasing_slice xs p q n.top i.rising);
        above = subst (λ (ys : List ℕ). index.offset + s ≤ get_or ys 0 0) same above;
        below = subst (λ (ys : List ℕ). get_or ys (length ys - 1) 0 < index.offset + s + (e - s)) same below;
        chunks = subst (λ (ys : List ℕ). HaveChunks (e - s) (index.offset + s) ys (offsets_after index.chunk_offsets index.offset s e) (within_after index.chunk_offsets index.within index.offset s p)) same
            (chunks_kept index.len index.offset xs index.chunk_offsets index.within s e p q i.chunks i.rising n.some h n.from n.apart n.top);
      };
    }

pub cut_made : (index : Index) → IsIndex index → (s e p q : ℕ) → e ≤ index.len → Ends index s e p q → (c : Flat) → index.chunk_offsets ≡ Some c →
    Cut index.len index.offset (indices_of index) (numbers_of c.rows) index.within s e p q
cut_made index i s e p q h n c f =
    cut_of index.len index.offset (indices_of index) (numbers_of c.rows) index.within s e p q
    (chunks_of index.len index.offset (indices_of index) index.chunk_offsets c index.within i.chunks f).1 i.rising n.some h n.from n.apart n.top

-- no exception is left
none_left : (index : Index) → IsIndex index → (s e p q : ℕ) → s ≤ e → p ≡ place_of s (rows_of index) → q ≡ place_of e (rows_of index) → p ≡ q → rows_inside s e (rows_of index) ≡ []
none_left index i s e p q h from to same =
    let xs = indices_of index in
    let empty : count_below e (rows_of index) - count_below s (rows_of index) ≡ 0 = omega arith in
    sym (rows_kept index.offset s e xs i.rising i.above h) ∙ ap (λ k. map (λ n. n - (index.offset + s)) (take k (drop (count_below s (rows_of index)) xs))) empty

-- the end of the rows has the number of exceptions as its place
pub place_of_end : (index : Index) → IsIndex index → (row m : ℕ) → index.len ≤ row → m ≡ length (indices_of index) → m ≡ place_of row (rows_of index)
place_of_end index i row m h e =
    let xs = indices_of index in
    let rows = count-rows row index.offset xs (above_first index.offset xs i.rising i.above) in
    let all : count_below (row + index.offset) xs ≡ length xs = count_is (row + index.offset) xs (Rising-from_increasing xs i.rising) (length xs) (omega arith) (λ some. omega (arith, i.below)) (λ none. absurd (omega arith)) in
    e ∙ sym all ∙ sym rows

-- no exception stands before the first row
pub place_of_start : (index : Index) → IsIndex index → (row : ℕ) → row ≡ 0 → 0 ≡ place_of row (rows_of index)
place_of_start index i row e =
    let xs = indices_of index in
    let rows = count-rows row index.offset xs (above_first index.offset xs i.rising i.above) in
    let all : count_below (row + index.offset) xs ≡ 0 = count_is (row + index.offset) xs (Rising-from_increasing xs i.rising) 0 (omega arith) (λ none. absurd (omega arith)) (λ some. omega (arith, i.above)) in
    sym all ∙ sym rows

-- ---- equal places

abbrev pub index_at : ℕ → ℕ → Flat → Option Flat → ℕ → Index
index_at n k is o v = record { len = n; offset = k; indices = is; chunk_offsets = o; within = v }

pub same_index : (a b : Index) → a.len ≡ b.len → a.offset ≡ b.offset → a.indices ≡ b.indices → a.chunk_offsets ≡ b.chunk_offsets → a.within ≡ b.within → a ≡ b
same_index a b e f g h k =
    ap (λ (n : ℕ). index_at n a.offset a.indices a.chunk_offsets a.within) e ∙ ap (λ (n : ℕ). index_at b.len n a.indices a.chunk_offsets a.within) f
    ∙ ap (λ (is : Flat). index_at b.len b.offset is a.chunk_offsets a.within) g ∙ ap (λ (o : Option Flat). index_at b.len b.offset b.indices o a.within) h
    ∙ ap (λ (v : ℕ). index_at b.len b.offset b.indices b.chunk_offsets v) k

whole_range : {X : Type 0} (xs : List X) (q : ℕ) → q ≡ length xs → slice_range xs 0 q ≡ xs
whole_range xs q e =
    let all : q - 0 ≡ q = omega arith in
    ap (λ n. take n xs) all ∙ take_all q xs (omega (arith, e))

pub whole_window : (c : Flat) (p q : ℕ) → p ≡ 0 → q ≡ length c.rows → window c p q ≡ c
whole_window c p q e f = ap (λ (n : ℕ). window c n q) e ∙ ap (flat c.dtype) (whole_range c.rows q f)

whole_offsets : (len offset : ℕ) (xs : List ℕ) (o : Option Flat) (w s p : ℕ) → HaveChunks len offset xs o w → s ≡ 0 → p ≡ 0 →
    (offsets_after o offset s len ≡ o) × (within_after o w offset s p ≡ w)
whole_offsets len offset xs None w s p h e f = (refl, sym h)
whole_offsets len offset xs (Some c) w s p h e f =
    let first : chunk_at offset s ≡ 0 = omega arith in
    let long : length (numbers_of c.rows) ≡ length c.rows = length-map c.rows (λ r. magnitude (row_int r)) in
    let last : chunk_from offset len ≡ length c.rows = sym (h.1).number ∙ long in
    let co = numbers_of c.rows in
    let none : w + p - (get_or co 0 0 - get_or co 0 0) ≡ w = omega arith in
    (ap Some (whole_window c (chunk_at offset s) (chunk_from offset len) first last), ap (λ (k : ℕ). w + p - (get_or co k 0 - get_or co 0 0)) first ∙ none)

-- a full range keeps all
pub whole_part : (index : Index) → IsIndex index → (s e p q : ℕ) → s ≡ 0 → e ≡ index.len → p ≡ place_of s (rows_of index) → q ≡ place_of e (rows_of index) → (part_of index s e p q ≡ index) × (p ≡ 0) × (q ≡ length (indices_of index))
whole_part index i s e p q a b from to =
    let low : p ≡ 0 = from ∙ sym (place_of_start index i s a) in
    let high : q ≡ length (indices_of index) = to ∙ sym (place_of_end index i e (length (indices_of index)) (omega arith) refl) in
    let long : length (indices_of index) ≡ length index.indices.rows = length-map index.indices.rows (λ r. magnitude (row_int r)) in
    let chunks = whole_offsets index.len index.offset (indices_of index) index.chunk_offsets index.within s p i.chunks a low in (
      same_index (part_of index s e p q) index (omega arith) (omega arith) (whole_window index.indices p q low (high ∙ long))
          (ap (offsets_after index.chunk_offsets index.offset s) b ∙ chunks.0) chunks.1,
      low,
      high,
    )

-- ---- the same, for places that are another's view

module _ (index now : Index) (v : index ≡ now) (i : IsIndex index) where
  pub sound_now : IsIndex now
  sound_now = subst IsIndex v i

  pub ends_at : (s e p q : ℕ) → s ≤ e → p ≡ place_of s (rows_of now) → q ≡ place_of e (rows_of now) → p ≢ q → Ends index s e p q
  ends_at s e p q h from to apart = subst (λ (n : Index). Ends n s e p q) (sym v) (ends_of now sound_now s e p q h from to apart)

  pub slice_seen : (s e p q : ℕ) → s ≤ e → e ≤ now.len → p ≡ place_of s (rows_of now) → q ≡ place_of e (rows_of now) → p ≢ q →
      (is : Flat) (o : Option Flat) (w : ℕ) → is ≡ window index.indices p q → o ≡ offsets_after index.chunk_offsets index.offset s e → w ≡ within_after index.chunk_offsets index.within index.offset s p →
      IsSliceOf now (index_at (e - s) (index.offset + s) is o w) s e p q
  slice_seen s e p q h k from to apart is o w f g u =
      let made : IsSliceOf now (part_of now s e p q) s e p q = slice_made now sound_now s e p q k from to (ends_of now sound_now s e p q h from to apart) in
      let same : part_of index s e p q ≡ index_at (e - s) (index.offset + s) is o w = same_index (part_of index s e p q) (index_at (e - s) (index.offset + s) is o w) refl refl (sym f) (sym g) (sym u) in
      subst (λ (part : Index). IsSliceOf now part s e p q) (ap (λ (n : Index). part_of n s e p q) (sym v) ∙ same) made

  pub cut_at : (s e p q : ℕ) → s ≤ e → e ≤ now.len → p ≡ place_of s (rows_of now) → q ≡ place_of e (rows_of now) → p ≢ q → (c : Flat) → index.chunk_offsets ≡ Some c →
      Cut index.len index.offset (indices_of index) (numbers_of c.rows) index.within s e p q
  cut_at s e p q h k from to apart c f = cut_made index i s e p q (subst (λ (n : Index). e ≤ n.len) (sym v) k) (ends_at s e p q h from to apart) c f

  pub none_seen : (s e p q : ℕ) → s ≤ e → p ≡ place_of s (rows_of now) → q ≡ place_of e (rows_of now) → p ≡ q → rows_inside s e (rows_of now) ≡ []
  none_seen s e p q h from to same = none_left now sound_now s e p q h from to same

  pub never_none : (s e p q : ℕ) → p ≡ place_of s (rows_of now) → q ≡ place_of e (rows_of now) → p ≡ q → s ≡ 0 → e ≡ now.len → ⊥
  never_none s e p q from to same a b = let w = whole_part now sound_now s e p q a b from to in absurd (omega (arith, w.1, w.2, sound_now.some))

  pub whole_seen : (part : Index) (s e p q : ℕ) → IsSliceOf now part s e p q → s ≡ 0 → e ≡ now.len → part ≡ now
  whole_seen part s e p q k a b = k.is ∙ (whole_part now sound_now s e p q a b k.from k.to).0

pub offsets_seen : (o : Option Flat) (c : Flat) (offset s e b : ℕ) → o ≡ Some c → b ≡ chunk_from offset e → (d : Flat) → d ≡ window c (chunk_at offset s) b → Some d ≡ offsets_after o offset s e
offsets_seen o c offset s e b f g d h =
    ap Some (h ∙ ap (window c (chunk_at offset s)) g) ∙ sym (ap (λ (r : Option Flat). offsets_after r offset s e) f)

pub within_seen : (o : Option Flat) (c : Flat) (w offset s p u : ℕ) → o ≡ Some c → u ≡ cut_away (numbers_of c.rows) w p (chunk_at offset s) → u ≡ within_after o w offset s p
within_seen o c w offset s p u f h = h ∙ sym (ap (λ (r : Option Flat). within_after r w offset s p) f)

pub none_after : (o : Option Flat) (w offset s e p : ℕ) → o ≡ None → (None ≡ offsets_after o offset s e) × (0 ≡ within_after o w offset s p)
none_after o w offset s e p f =
    (sym (ap (λ (r : Option Flat). offsets_after r offset s e) f), sym (ap (λ (r : Option Flat). within_after r w offset s p) f))
