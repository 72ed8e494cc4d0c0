-- A chain of slices is one slice.
use Rattle.std.proofs.Common.{◌≡◌, ℕ, ◌+◌, ◌-◌, ◌≤◌, ◌<◌, List, take, drop, length, get_or, refl, sym, ◌∙◌, ap, arith}
use Rattle.std.specs.Prelude.{Option, Some, None}
use Rattle.std.specs.List.{slice_range}
use Rattle.std.proofs.lemmas.List.{length-take, drop-take, take-take, drop-drop}
use Rattle.vx_base.specs.Column.{Flat, flat}
use Rattle.vx_base.specs.Numbers.{numbers_of}
use Rattle.vx_base.specs.Checks.{count_below}
use Rattle.vx_patches.specs.Places.{Index, IsIndex, indices_of, rows_of}
use Rattle.vx_patches.specs.Slices.{IsSliceOf, place_of, chunk_at, chunk_from, window, cut_away, within_after, offsets_after, part_of}
use Rattle.vx_patches.proofs.Counts.{Rising, Rising-from_increasing, count-slice, count-le, count-le-length, get_or-slice}
use Rattle.vx_patches.proofs.Chunks.{Cut, never_fall}
use Rattle.vx_patches.proofs.Searches.{chunks_of}
use Rattle.vx_patches.proofs.Slices.{place_count, ends_of, Ends, cut_made, slice_numbers, same_index}

-- chunks of a part are chunks of the whole, further on
chunk_twice : (offset s t : ℕ) → chunk_at offset s + chunk_at (offset + s) t ≡ chunk_at offset (s + t)
chunk_twice offset s t = omega arith

chunk_from_twice : (offset s f : ℕ) → chunk_at offset s + chunk_from (offset + s) f ≡ chunk_from offset (s + f)
chunk_from_twice offset s f = omega arith

chunks_inside : (offset s e t f : ℕ) → t < f → s + f ≤ e → (chunk_at (offset + s) t < chunk_from (offset + s) f) × (chunk_from (offset + s) f ≤ chunk_from offset e - chunk_at offset s)
chunks_inside offset s e t f h k = (omega arith, omega arith)

slice_twice : {X : Type 0} (xs : List X) (a b c d : ℕ) → c ≤ d → d ≤ b - a → slice_range (slice_range xs a b) c d ≡ slice_range xs (a + c) (a + d)
slice_twice xs a b c d h k =
    let whole : c + (b - a - c) ≡ b - a = omega arith in
    let inner : drop c (take (b - a) (drop a xs)) ≡ take (b - a - c) (drop (a + c) xs) =
    ap (λ n. drop c (take n (drop a xs))) (sym whole) ∙ drop-take c (b - a - c) (drop a xs) ∙ ap (take (b - a - c)) (drop-drop c a xs) in
    let less : d - c ≡ a + d - (a + c) = omega arith in
    ap (take (d - c)) inner ∙ take-take (d - c) (b - a - c) (drop (a + c) xs) (omega arith) ∙ ap (λ n. take n (drop (a + c) xs)) less

pub window_twice : (c : Flat) (a b i j : ℕ) → i ≤ j → j ≤ b - a → window (window c a b) i j ≡ window c (a + i) (a + j)
window_twice c a b i j h k = ap (flat c.dtype) (slice_twice c.rows a b i j h k)

offsets_twice : (o : Option Flat) (offset s e t f : ℕ) → t < f → s + f ≤ e → offsets_after (offsets_after o offset s e) (offset + s) t f ≡ offsets_after o offset (s + t) (s + f)
offsets_twice None offset s e t f h k = refl
offsets_twice (Some co) offset s e t f h k =
    let inside = chunks_inside offset s e t f h k in
    ap Some (window_twice co (chunk_at offset s) (chunk_from offset e) (chunk_at (offset + s) t) (chunk_from (offset + s) f) (omega (arith, inside.0)) inside.1
    ∙ ap (λ n. window co n (chunk_at offset s + chunk_from (offset + s) f)) (chunk_twice offset s t) ∙ ap (window co (chunk_at offset (s + t))) (chunk_from_twice offset s f))

cut_twice : (x₀ x y w p r : ℕ) → x₀ ≤ x → x ≤ y → x - x₀ ≤ w + p → w + p - (x - x₀) + r - (y - x) ≡ w + (p + r) - (y - x₀)
cut_twice x₀ x y w p r h k l = omega arith

-- the place in the whole, from the place in the part
same_places : (index part : Index) → IsIndex index → (s e t p q r one : ℕ) → IsSliceOf index part s e p q → r ≡ place_of t (rows_of part) → one ≡ place_of (s + t) (rows_of index) → s + t ≤ e → (one ≡ p + r) × (r ≤ q - p)
same_places index part i s e t p q r one a from to h =
    let xs = indices_of index in
    let v = index.offset + (s + t) in
    let rising : Rising xs = Rising-from_increasing xs i.rising in
    let low : count_below (index.offset + s) xs ≡ p = place_count index i s p a.from in
    let high : count_below (index.offset + e) xs ≡ q = place_count index i e q a.to in
    let here : count_below (part.offset + t) (indices_of part) ≡ r = place_count part a.sound t r from in
    let there : count_below v xs ≡ one = place_count index i (s + t) one to in
    let moved_to : part.offset ≡ index.offset + s = ap (λ (n : Index). n.offset) a.is in
    let bound : v ≡ part.offset + t = omega (arith, moved_to) in
    let numbers : slice_range xs p q ≡ indices_of part = sym (ap indices_of a.is ∙ slice_numbers index.indices.rows p q) in
    let moved : count_below v (slice_range xs p q) ≡ r = ap (count_below v) numbers ∙ ap (λ n. count_below n (indices_of part)) bound ∙ here in
    let above : p ≤ one = omega (arith, low, there, count-le (index.offset + s) v xs rising (omega arith)) in
    let below : one ≤ q = omega (arith, high, there, count-le v (index.offset + e) xs rising (omega arith)) in
    let top : q ≤ length xs = omega (arith, high, count-le-length (index.offset + e) xs) in
    let count = count-slice v xs i.rising p q (omega arith) top in
    (omega (arith, moved, there, count), omega (arith, moved, there, count))

within_twice : (index : Index) → IsIndex index → (s e t f p q r one : ℕ) → Ends index s e p q → e ≤ index.len → t < f → s + f ≤ e → one ≡ p + r →
    (o : Option Flat) → index.chunk_offsets ≡ o →
    within_after (offsets_after o index.offset s e) (within_after o index.within index.offset s p) (index.offset + s) t r ≡ within_after o index.within index.offset (s + t) one
within_twice index i s e t f p q r one n h k l m None x = refl
within_twice index i s e t f p q r one n h k l m (Some d) x =
    let co = numbers_of d.rows in
    let w = index.within in
    let a = chunk_at index.offset s in
    let b = chunk_from index.offset e in
    let c = chunk_at (index.offset + s) t in
    let ys = slice_range co a b in
    let u = cut_away co w p a in
    let cut : Cut index.len index.offset (indices_of index) co w s e p q = cut_made index i s e p q h n d x in
    let inside = chunks_inside index.offset s e t f k l in
    let within : a + c < length co = omega (arith, inside.0, inside.1, cut.top, cut.ordered) in
    let entry : get_or ys c 0 ≡ get_or co (a + c) 0 = get_or-slice co a b c 0 (omega (arith, inside.0, inside.1)) in
    let zeroth : a + 0 ≡ a = omega arith in
    let first : get_or ys 0 0 ≡ get_or co a 0 = get_or-slice co a b 0 0 (omega (arith, inside.0, inside.1)) ∙ ap (λ j. get_or co j 0) zeroth in
    let rise : get_or co a 0 ≤ get_or co (a + c) 0 =
    never_fall co ((chunks_of index.len index.offset (indices_of index) index.chunk_offsets d w i.chunks x).1).rise a (a + c) (omega arith) within in
    ap (λ (ns : List ℕ). u + r - (get_or ns c 0 - get_or ns 0 0)) (slice_numbers d.rows a b)
    ∙ ap (λ j. u + r - (j - get_or ys 0 0)) entry ∙ ap (λ j. u + r - (get_or co (a + c) 0 - j)) first
    ∙ cut_twice (get_or co 0 0) (get_or co a 0) (get_or co (a + c) 0) w p r cut.base rise cut.uncut
    ∙ ap (λ j. w + j - (get_or co (a + c) 0 - get_or co 0 0)) (sym m) ∙ ap (λ j. w + one - (get_or co j 0 - get_or co 0 0)) (chunk_twice index.offset s t)

-- some place is kept, so the places are in order
pub kept_some : (index part : Index) (s e p q : ℕ) → IsSliceOf index part s e p q → p < q
kept_some index part s e p q a =
    let size : length (indices_of part) ≡ length (slice_range (indices_of index) p q) = ap length (ap indices_of a.is ∙ slice_numbers index.indices.rows p q) in
    omega (arith, a.sound.some, size, length-take (q - p) (drop p (indices_of index)))

part_twice : (index : Index) → IsIndex index → (s e t f p q r u : ℕ) → Ends index s e p q → e ≤ index.len → t < f → s + f ≤ e → r ≤ u → u ≤ q - p →
    part_of (part_of index s e p q) t f r u ≡ part_of index (s + t) (s + f) (p + r) (p + u)
part_twice index i s e t f p q r u n h k l m b =
    same_index (part_of (part_of index s e p q) t f r u) (part_of index (s + t) (s + f) (p + r) (p + u)) (omega arith) (omega arith)
    (window_twice index.indices p q r u m b) (offsets_twice index.chunk_offsets index.offset s e t f k l)
    (within_twice index i s e t f p q r (p + r) n h k l refl index.chunk_offsets refl)

pub chain_slices : (index part rest once : Index) (start end from to first last next final one two : ℕ) → IsIndex index → start ≤ end → end ≤ index.len → from ≤ to → to ≤ end - start →
    IsSliceOf index part start end first last → IsSliceOf part rest from to next final → IsSliceOf index once (start + from) (start + to) one two → rest ≡ once
chain_slices index part rest once start end from to first last next final one two i h k l m a b c =
    let outer : Ends index start end first last = ends_of index i start end first last h a.from a.to (omega (arith, kept_some index part start end first last a)) in
    let inner : Ends part from to next final = ends_of part a.sound from to next final l b.from b.to (omega (arith, kept_some part rest from to next final b)) in
    let inside : start + to ≤ end = omega arith in
    let low = same_places index part i start end from first last next one a b.from c.from (omega (arith, inner.some)) in
    let high = same_places index part i start end to first last final two a b.to c.to inside in
    b.is ∙ ap (λ (n : Index). part_of n from to next final) a.is
    ∙ part_twice index i start end from to first last next final outer k inner.some inside (omega (arith, inner.apart)) high.1
    ∙ ap (λ (n : ℕ). part_of index (start + from) (start + to) n (first + final)) (sym low.0) ∙ ap (part_of index (start + from) (start + to) one) (sym high.0) ∙ sym c.is
