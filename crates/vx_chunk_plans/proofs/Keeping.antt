-- Places of true bits, as slices and as indices, chunk by chunk.
use Rattle.std.proofs.Common.{arith, refl, sym, ◌∙◌, ap, subst, ◌≡◌, ◌<◌, ◌≤◌, ◌+◌, ◌-◌, ◌*◌, ◌/◌, ℕ, zero, suc, Bool, true, false, cond, List, [], ◌∷◌, ◌++◌, map, length, get_or, take, drop, append_assoc}
use Rattle.std.specs.Prelude.{nat_le}
use Rattle.std.specs.List.{AllZip, range_with_len, flat_map}
use Rattle.std.proofs.Math.Seq.{take-add}
use Rattle.std.proofs.lemmas.Bool.Decides.{nat_tests}
use Rattle.std.proofs.lemmas.List.{take_more, append-nil, get_or-drop, length-drop, length-take-le}
use Rattle.std.proofs.lemmas.Grind.{flat_map-append}
use Rattle.std.proofs.lemmas.Slice.Zip.{AllZip-long, all_zipped_more}
use Rattle.vx_masks.specs.Bits.{places_from, places_of, count_true}
use Rattle.vx_masks.proofs.Places.{places_from-append, places_yes, places_no}
use Rattle.vx_chunks.specs.Bounds.{total}
use Rattle.vx_chunk_plans.specs.Filters.{slice_places, kept_places, kept_rows, KeepsWithin, keeps_most}
use Rattle.vx_chunk_plans.specs.declared.filter.ChunkFilter.{ChunkFilter}
use Rattle.vx_chunk_plans.proofs.Laying.{shifted, laid_push}

-- places from another start
shifted_places : (a at : ℕ) (bits : List Bool) → shifted a (places_from at bits) ≡ places_from (a + at) bits
shifted_places a at [] = refl
shifted_places a at (true ∷ bits) =
    let e : a + (at + 1) ≡ a + at + 1 = omega arith in
    ap (λ ps. (a + at) ∷ ps) (shifted_places a (at + 1) bits ∙ ap (λ k. places_from k bits) e)
shifted_places a at (false ∷ bits) =
    let e : a + (at + 1) ≡ a + at + 1 = omega arith in
    shifted_places a (at + 1) bits ∙ ap (λ k. places_from k bits) e

few_places : (at : ℕ) (bits : List Bool) → length (places_from at bits) ≤ length bits
few_places at [] = omega arith
few_places at (true ∷ bits) = omega (arith, few_places (at + 1) bits)
few_places at (false ∷ bits) = omega (arith, few_places (at + 1) bits)

-- as many places as bits are all
all_places : (at : ℕ) (bits : List Bool) → length (places_from at bits) ≡ length bits → places_from at bits ≡ range_with_len at (length bits)
all_places at [] h = refl
all_places at (true ∷ bits) h = ap (λ ps. at ∷ ps) (all_places (at + 1) bits (omega arith))
all_places at (false ∷ bits) h = absurd (omega (arith, few_places (at + 1) bits))

-- the bits of a chunk
pub chunk_long : (bits : List Bool) (start len : ℕ) → start + len ≤ length bits → length (take len (drop start bits)) ≡ len
chunk_long bits start len h = length-take-le len (drop start bits) (omega (arith, length-drop start bits))

pub whole_places : (bits : List Bool) (start len : ℕ) (places : List ℕ) → start + len ≤ length bits → places ≡ places_of (take len (drop start bits)) → length places ≡ len →
    places ≡ range_with_len 0 len
whole_places bits start len places h e all =
    let long = chunk_long bits start len h in
    e ∙ all_places 0 (take len (drop start bits)) (sym (ap length e) ∙ all ∙ sym long) ∙ ap (range_with_len 0) long

-- one bit more of a chunk
bit_at : (bits : List Bool) (start i : ℕ) (b : Bool) → b ≡ get_or bits (start + i) false → get_or (drop start bits) i false ≡ b
bit_at bits start i b e = get_or-drop start bits i false ∙ sym e

pub next_yes : (bits : List Bool) (start i : ℕ) (b : Bool) → start + i < length bits → b ≡ get_or bits (start + i) false → b ≡ true →
    places_of (take (i + 1) (drop start bits)) ≡ places_of (take i (drop start bits)) ++ i ∷ []
next_yes bits start i b h e set = places_yes (drop start bits) i false (omega (arith, length-drop start bits)) (bit_at bits start i b e ∙ set)

pub next_no : (bits : List Bool) (start i : ℕ) (b : Bool) → start + i < length bits → b ≡ get_or bits (start + i) false → b ≡ false →
    places_of (take (i + 1) (drop start bits)) ≡ places_of (take i (drop start bits))
next_no bits start i b h e unset = places_no (drop start bits) i false (omega (arith, length-drop start bits)) (bit_at bits start i b e ∙ unset)

pub next_bit : (bits : List Bool) (start i : ℕ) (b : Bool) → start + i < length bits → b ≡ get_or bits (start + i) false →
    places_of (take (i + 1) (drop start bits)) ≡ places_of (take i (drop start bits)) ++ cond b (i ∷ []) []
next_bit bits start i true h e = next_yes bits start i true h e refl
next_bit bits start i false h e = next_no bits start i false h e refl ∙ sym (append-nil (places_of (take i (drop start bits))))

-- a range of one number more
pub range_more : (a n : ℕ) → range_with_len a (n + 1) ≡ range_with_len a n ++ (a + n) ∷ []
range_more a zero = let e : a ≡ a + 0 = omega arith in ap (λ (k : ℕ). k ∷ []) e
range_more a (suc n) =
    let e : suc n + 1 ≡ suc (n + 1) = omega arith in
    let f : a + 1 + n ≡ a + suc n = omega arith in
    ap (range_with_len a) e ∙ ap (λ (xs : List ℕ). a ∷ xs) (range_more (a + 1) n ∙ ap (λ (k : ℕ). range_with_len (a + 1) n ++ k ∷ []) f)

pub range_longer : (a i : ℕ) → a ≤ i → range_with_len a (i + 1 - a) ≡ range_with_len a (i - a) ++ i ∷ []
range_longer a i h =
    let e : i + 1 - a ≡ i - a + 1 = omega arith in
    let f : a + (i - a) ≡ i = omega arith in
    ap (range_with_len a) e ∙ range_more a (i - a) ∙ ap (λ k. range_with_len a (i - a) ++ k ∷ []) f

-- the slice that is still to be added gets one longer
pub open_longer : (out : List ℕ) (from i : ℕ) → from ≤ i → out ++ range_with_len from (i + 1 - from) ≡ (out ++ range_with_len from (i - from)) ++ i ∷ []
open_longer out from i h = ap (λ r. out ++ r) (range_longer from i h) ∙ sym (append_assoc out (range_with_len from (i - from)) (i ∷ []))

-- or was added
pub open_added : (out out' : List ℕ) (from i : ℕ) → out' ≡ out ++ range_with_len from (i - from) → out' ++ range_with_len (i + 1) (i + 1 - (i + 1)) ≡ (out ++ range_with_len from (i - from)) ++ []
open_added out out' from i e =
    let z : i + 1 - (i + 1) ≡ 0 = omega arith in
    ap (λ k. out' ++ range_with_len (i + 1) k) z ∙ ap (λ r. r ++ []) e

pub slice_added : (slices : List (ℕ × ℕ)) (start end : ℕ) → slice_places (slices ++ (start, end) ∷ []) ≡ slice_places slices ++ range_with_len start (end - start)
slice_added slices start end =
    flat_map-append (λ (slice : ℕ × ℕ). range_with_len slice.0 (slice.1 - slice.0)) slices ((start, end) ∷ [])
    ∙ ap (λ r. slice_places slices ++ r) (append-nil (range_with_len start (end - start)))

pub slice_none : (out : List ℕ) (start end : ℕ) → end ≤ start → out ≡ out ++ range_with_len start (end - start)
slice_none out start end h =
    let z : end - start ≡ 0 = omega arith in
    sym (append-nil out) ∙ ap (λ k. out ++ range_with_len start k) (sym z)

pub one_slice : (slices : List (ℕ × ℕ)) (len : ℕ) → slices ≡ (0, len) ∷ [] → range_with_len 0 len ≡ slice_places slices
one_slice slices len e =
    let whole : len - 0 ≡ len = omega arith in
    sym (ap slice_places e ∙ append-nil (range_with_len 0 (len - 0)) ∙ ap (range_with_len 0) whole)

-- one chunk more
pub kept_more : (lens : List ℕ) (bits : List Bool) (filters : List ChunkFilter) (filter : ChunkFilter) (k start len : ℕ) → k < length lens →
    AllZip KeepsWithin (take k lens) filters → start ≡ total (take k lens) → len ≡ get_or lens k 0 → start + len ≤ length bits →
    kept_rows (take k lens) filters ≡ places_of (take start bits) → kept_places len filter ≡ places_of (take len (drop start bits)) →
    kept_rows (take (k + 1) lens) (filters ++ filter ∷ []) ≡ places_of (take (start + len) bits)
kept_more lens bits filters filter k start len h zip start_is len_is within before here =
    let chunk = take len (drop start bits) in
    let from : 0 + total (take k lens) ≡ start = omega arith in
    let long : 0 + length (take start bits) ≡ start + 0 = omega (arith, length-take-le start bits (omega arith)) in
    ap (λ ns. kept_rows ns (filters ++ filter ∷ [])) (take_more lens k 0 h)
    ∙ laid_push kept_places 0 (take k lens) filters (get_or lens k 0) filter (AllZip-long KeepsWithin (take k lens) filters zip)
    ∙ ap (λ b. kept_rows (take k lens) filters ++ shifted b (kept_places (get_or lens k 0) filter)) from
    ∙ ap (λ n. kept_rows (take k lens) filters ++ shifted start (kept_places n filter)) (sym len_is)
    ∙ ap (λ ps. kept_rows (take k lens) filters ++ shifted start ps) here
    ∙ ap (λ rs. rs ++ shifted start (places_of chunk)) before
    ∙ ap (λ rs. places_of (take start bits) ++ rs) (shifted_places start 0 chunk ∙ ap (λ b. places_from b chunk) (sym long))
    ∙ sym (places_from-append 0 (take start bits) chunk)
    ∙ ap places_of (sym (take-add start len bits))

-- four of five, without a product
pub most_is : (len count fifth : ℕ) → count ≤ len → fifth ≡ len / 5 → nat_le (len - count) fifth ≡ nat_le (4 * len) (5 * count)
most_is len count fifth h e = grind (arith, nat_tests)

pub kept_zip : (lens : List ℕ) (filters : List ChunkFilter) (filter : ChunkFilter) (k len : ℕ) → k < length lens → AllZip KeepsWithin (take k lens) filters → len ≡ get_or lens k 0 → KeepsWithin len filter →
    AllZip KeepsWithin (take (k + 1) lens) (filters ++ filter ∷ [])
kept_zip lens filters filter k len h zip len_is here =
    subst (λ (ns : List ℕ). AllZip KeepsWithin ns (filters ++ filter ∷ [])) (sym (take_more lens k 0 h))
    (all_zipped_more KeepsWithin (take k lens) filters (get_or lens k 0) filter zip (subst (λ n. KeepsWithin n filter) len_is here))
