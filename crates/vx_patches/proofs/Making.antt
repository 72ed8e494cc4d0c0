-- New places that break no rule keep all that an index keeps.
use Rattle.std.proofs.Common.{◌≡◌, ℕ, zero, suc, ◌+◌, ◌-◌, ◌*◌, ◌/◌, ◌%◌, ◌^◌, ◌≤◌, ◌<◌, Bool, true, false, cond, ◌&&◌, nat_le, nat_eq, List, [], ◌∷◌, ◌++◌, length, get_or, refl, sym, ◌∙◌, ap, subst, arith}
use Rattle.std.specs.Prelude.{Option, Some, None, not}
use Rattle.std.specs.List.Sorted.{IsStrictlyIncreasing}
use Rattle.std.proofs.lemmas.Bool.{false≢true, and_parts}
use Rattle.std.proofs.lemmas.Bool.Decides.{nat_tests}
use Rattle.std.proofs.lemmas.List.{get_or_default}
use Rattle.vx_rows.specs.declared.error.ColumnError.{ColumnError}
use Rattle.vx_rows.specs.declared.error.ColumnError.TheVariants.{Malformed}
use Rattle.vx_rows.specs.declared.error.Rule.{Rule}
use Rattle.vx_base.specs.Column.{Flat}
use Rattle.vx_base.specs.Numbers.{numbers_of, is_unsigned}
use Rattle.vx_base.specs.Checks.{count_below, counts_below, all_within}
use Rattle.vx_base.proofs.CheckLemmas.{strictly_increasing-says, within_at, length_numbers}
use Rattle.vx_patches.specs.Places.{Index, IsIndex, HaveChunks, HaveChunkOffsets, chunks_over}
use Rattle.vx_base.specs.Rules.{first_broken, Refuses}
use Rattle.vx_patches.specs.Making.{index_rules, value_rules, chunk_rules, places_fault, index_fault, chunk_fault, patches_fault, made}
use Rattle.vx_patches.specs.Pairs.{IsOverlay, overlay}
use Rattle.vx_patches.proofs.Counts.{Rising, Rising-from_increasing, rise-le, count_is, count-le, count-le-length}

zero_at : (offset : ℕ) → 1024 * (offset / 1024 + 0) ≤ offset
zero_at offset = omega arith

later : (b i j : ℕ) → i ≤ j → 1024 * (b + i) ≤ 1024 * (b + j)
later b i j h = omega arith

some_chunk : (offset len n : ℕ) → 0 < len → n ≡ chunks_over (offset % 1024 + len) → 0 < n
some_chunk offset len n h e = omega arith

-- each entry is the count of the indices before its chunk
abbrev pub AreCounts : ℕ → List ℕ → List ℕ → Type 0
AreCounts first indices offsets = (i : ℕ) → i < length offsets → get_or offsets i 0 ≡ count_below (1024 * (first + i)) indices

pub are_counts : (first : ℕ) (offsets indices : List ℕ) → counts_below first offsets indices ≡ true → AreCounts first indices offsets
are_counts first [] indices e i h = absurd (omega arith)
are_counts first (n ∷ ns) indices e zero h =
    let p = and_parts (nat_eq n (count_below (1024 * first) indices)) (counts_below (first + 1) ns indices) e in
    let same : n ≡ count_below (1024 * first) indices = grind (arith, nat_tests) in
    let plain : first + 0 ≡ first = omega arith in
    same ∙ ap (λ (k : ℕ). count_below (1024 * k) indices) (sym plain)
are_counts first (n ∷ ns) indices e (suc i) h =
    let p = and_parts (nat_eq n (count_below (1024 * first) indices)) (counts_below (first + 1) ns indices) e in
    let next : first + 1 + i ≡ first + suc i = omega arith in
    are_counts (first + 1) ns indices p.1 i (omega arith) ∙ ap (λ (k : ℕ). count_below (1024 * k) indices) next

pub new_chunks : (len offset : ℕ) (xs co : List ℕ) → offset + len < 2 ^ 64 → 0 < length xs → IsStrictlyIncreasing xs → offset ≤ get_or xs 0 0 → get_or xs (length xs - 1) 0 < offset + len →
    length co ≡ chunks_over (offset % 1024 + len) → AreCounts (offset / 1024) xs co → HaveChunkOffsets len offset xs co 0
new_chunks len offset xs co short some r above below number counts =
    let rising : Rising xs = Rising-from_increasing xs r in
    let none : count_below (1024 * (offset / 1024 + 0)) xs ≡ 0 = count_is (1024 * (offset / 1024 + 0)) xs rising 0 (omega arith) (λ h. absurd (omega arith)) (λ h. omega (arith, zero_at offset)) in
    let order : get_or xs 0 0 ≤ get_or xs (length xs - 1) 0 = omega (arith, rise-le xs r 0 (length xs - 1) (omega arith) (omega arith)) in
    let long : 0 < length co = some_chunk offset len (length co) (omega arith) number in
    let first : get_or co 0 0 ≡ 0 = counts 0 long ∙ none in
    record {
      number = number;
      rise = λ i j d h l. omega (
        arith,
        get_or_default co i d 0 (omega arith),
        get_or_default co j d 0 l,
        counts i (omega arith),
        counts j l,
        count-le (1024 * (offset / 1024 + i)) (1024 * (offset / 1024 + j)) xs rising (later (offset / 1024) i j h),
      );
      counts = λ i l. omega (arith, counts i l, first, count-le-length (1024 * (offset / 1024 + i)) xs);
      fits = omega (arith, rise-le xs r 0 (length xs - 1) (omega arith) (omega arith));
    }

-- ---- no rule is broken

pub not_false : (b : Bool) → not b ≡ false → b ≡ true
not_false true e = refl
not_false false e = absurd (false≢true (sym e))

pub first_holds : (b : Bool) (rule : Rule) (o : Option Rule) → cond b (Some rule) o ≡ None → (b ≡ false) × (o ≡ None)
first_holds true rule o e = absurd (cc)
first_holds false rule o e = (refl, e)

-- the first rule of two lists of rules
pub broken-append : (ps qs : List (Rule × Bool)) → first_broken ps ≡ None → first_broken (ps ++ qs) ≡ first_broken qs
unfolding first_broken
broken-append [] qs e = refl
broken-append (p ∷ ps) qs e =
    let h = first_holds p.1 p.0 (first_broken ps) e in
    rw h.0 (broken-append ps qs h.1)

pub broken-front : (ps qs : List (Rule × Bool)) (rule : Rule) → first_broken ps ≡ Some rule → first_broken (ps ++ qs) ≡ Some rule
unfolding first_broken
broken-front [] qs rule e = absurd (cc)
broken-front ((r, true) ∷ ps) qs rule e = e
broken-front ((r, false) ∷ ps) qs rule e = broken-front ps qs rule e

above_all : (lo : ℕ) (xs : List ℕ) → all_within lo None xs ≡ true → 0 < length xs → lo ≤ get_or xs 0 0
above_all lo [] e h = absurd (omega arith)
above_all lo (x ∷ xs) e h =
    let p = and_parts (nat_le lo x && true) (all_within lo None xs) e in
    let q = and_parts (nat_le lo x) true p.0 in
    grind (arith, nat_tests)

-- what the rules of indices say
pub record HoldIndices (len offset : ℕ) (indices : Flat) : Type 0 where
  pub short : offset + len < 2 ^ 64
  pub some : 0 < length (numbers_of indices.rows)
  pub unsigned : is_unsigned indices.dtype ≡ true
  pub rising : IsStrictlyIncreasing (numbers_of indices.rows)
  pub above : offset ≤ get_or (numbers_of indices.rows) 0 0
  pub below : get_or (numbers_of indices.rows) (length (numbers_of indices.rows) - 1) 0 < offset + len

pub hold_indices : (len offset : ℕ) (indices : Flat) → first_broken (index_rules len offset indices) ≡ None → HoldIndices len offset indices
unfolding first_broken
hold_indices len offset indices e =
    let xs = numbers_of indices.rows in
    let a = first_holds _ _ _ e in
    let b = first_holds _ _ _ a.1 in
    let c = first_holds _ _ _ b.1 in
    let d = first_holds _ _ _ c.1 in
    let f = first_holds _ _ _ d.1 in
    let g = first_holds _ _ _ f.1 in
    let low : nat_le 18446744073709551616 (offset + len) ≡ false = a.0 in
    let none : nat_eq (length indices.rows) 0 ≡ false = b.0 in
    let rows : 0 < length indices.rows = grind (arith, nat_tests) in
    let some : 0 < length xs = omega (arith, length_numbers indices.rows) in
    let short : offset + len < 18446744073709551616 = grind (arith, nat_tests) in
    record {
      short = short;
      some = some;
      unsigned = not_false _ c.0;
      rising = strictly_increasing-says xs (not_false _ d.0);
      above = above_all offset xs (not_false _ f.0) some;
      below = within_at 0 (offset + len) xs (length xs - 1) (not_false _ g.0) (omega arith);
    }

chunks_made : (len offset : ℕ) (indices : Flat) (offsets : Option Flat) → HoldIndices len offset indices → first_broken (chunk_rules len offset indices offsets) ≡ None →
    HaveChunks len offset (numbers_of indices.rows) offsets 0
unfolding first_broken
chunks_made len offset indices None h e = refl
chunks_made len offset indices (Some c) h e =
    let a = first_holds _ _ _ e in
    let b = first_holds _ _ _ a.1 in
    let d = first_holds _ _ _ b.1 in
    let number : nat_eq (length c.rows) (chunks_over (offset % 1024 + len)) ≡ true = not_false _ b.0 in
    let same : length c.rows ≡ chunks_over (offset % 1024 + len) = grind (arith, nat_tests) in (
      not_false _ a.0,
      new_chunks len offset (numbers_of indices.rows) (numbers_of c.rows) h.short h.some h.rising h.above h.below (length_numbers c.rows ∙ same)
          (are_counts (offset / 1024) (numbers_of c.rows) (numbers_of indices.rows) (not_false _ d.0)),
    )

index_held : (len offset : ℕ) (indices : Flat) (offsets : Option Flat) → HoldIndices len offset indices → chunk_fault len offset indices offsets ≡ None → IsIndex (made len offset indices offsets)
index_held len offset indices offsets h f =
    record { short = h.short; unsigned = h.unsigned; some = h.some; rising = h.rising; above = h.above; below = h.below; chunks = chunks_made len offset indices offsets h f }

-- indices that break no rule
pub places_made : (len offset : ℕ) (indices : Flat) → places_fault len offset indices ≡ None → IsIndex (made len offset indices None)
unfolding first_broken
places_made len offset indices e = index_held len offset indices None (hold_indices len offset indices e) refl

-- chunk offsets that break no rule, for indices that broke none
pub offsets_made : (index : Index) → IsIndex index → (offsets : Option Flat) → chunk_fault index.len index.offset index.indices offsets ≡ None → IsIndex (made index.len index.offset index.indices offsets)
offsets_made index i offsets e =
    index_held index.len index.offset index.indices offsets (record { short = i.short; some = i.some; unsigned = i.unsigned; rising = i.rising; above = i.above; below = i.below }) e

-- ---- the first rule that is broken

pub refused : (o : Option Rule) (rule : Rule) (e : ColumnError) → o ≡ Some rule → e ≡ Malformed [] rule → Refuses o e
refused o rule e h k = subst (λ (p : Option Rule). Refuses p e) (sym h) k

-- what refuses by the rules in front refuses by all
pub refused-front : (ps qs : List (Rule × Bool)) (e : ColumnError) → Refuses (first_broken ps) e → Refuses (first_broken (ps ++ qs)) e
refused-front ps qs e r = by_fault (first_broken ps) refl r
  where
    by_fault : (o : Option Rule) → first_broken ps ≡ o → Refuses o e → Refuses (first_broken (ps ++ qs)) e
    by_fault None f r = absurd r
    by_fault (Some rule) f r = subst (λ (p : Option Rule). Refuses p e) (sym (broken-front ps qs rule f)) r

-- and so do the rules behind, where none in front is broken
pub refused-behind : (ps qs : List (Rule × Bool)) (e : ColumnError) → first_broken ps ≡ None → Refuses (first_broken qs) e → Refuses (first_broken (ps ++ qs)) e
refused-behind ps qs e f r = subst (λ (p : Option Rule). Refuses p e) (sym (broken-append ps qs f)) r

-- the rules of values are tried after those of the indices
pub broken_values : (len offset : ℕ) (indices values : Flat) (offsets : Option Flat) (rule : Rule) → index_fault len offset indices None ≡ None →
    first_broken (value_rules indices values) ≡ Some rule → patches_fault len offset indices values offsets ≡ Some rule
broken_values len offset indices values offsets rule e f =
    broken-append (index_rules len offset indices) (value_rules indices values ++ chunk_rules len offset indices offsets) e
    ∙ broken-front (value_rules indices values) (chunk_rules len offset indices offsets) rule f

-- and those of the chunk offsets after both
pub broken_chunks : (index : Index) (len offset : ℕ) (indices values : Flat) (offsets : Option Flat) → index ≡ made len offset indices None → index_fault len offset indices None ≡ None →
    first_broken (value_rules indices values) ≡ None → patches_fault len offset indices values offsets ≡ chunk_fault index.len index.offset index.indices offsets
broken_chunks index len offset indices values offsets made_of e f =
    broken-append (index_rules len offset indices) (value_rules indices values ++ chunk_rules len offset indices offsets) e
    ∙ broken-append (value_rules indices values) (chunk_rules len offset indices offsets) f
    ∙ sym (ap (λ (n : Index). chunk_fault n.len n.offset n.indices offsets) made_of)

-- what the rules say of the indices of new places, they say of the indices
pub value_fault_of : (index : Index) (seen : Flat) (len offset : ℕ) (indices values : Flat) → seen ≡ index.indices → index ≡ made len offset indices None →
    first_broken (value_rules indices values) ≡ first_broken (value_rules seen values)
value_fault_of index seen len offset indices values s made_of = sym (ap (λ (c : Flat). first_broken (value_rules c values)) (s ∙ ap (λ (n : Index). n.indices) made_of))

pub values_number : (indices values : Flat) → first_broken (value_rules indices values) ≡ None → length values.rows ≡ length indices.rows
unfolding first_broken
values_number indices values e =
    let h = first_holds _ _ _ e in
    let same : nat_eq (length values.rows) (length indices.rows) ≡ true = not_false _ h.0 in
    grind (arith, nat_tests)

-- places, and values that break no rule
pub overlay_made : (index places : Index) (seen values : Flat) (offsets : Option Flat) → IsIndex index → index ≡ made places.len places.offset places.indices offsets → seen ≡ places.indices →
    first_broken (value_rules seen values) ≡ None → IsOverlay (overlay index values)
overlay_made index places seen values offsets i made_of s e =
    let number : length values.rows ≡ length seen.rows = values_number seen values e in
    let same : seen ≡ index.indices = s ∙ sym (ap (λ (n : Index). n.indices) made_of) in
    record { index = i; values = number ∙ ap (λ (c : Flat). length c.rows) same ∙ sym (length_numbers index.indices.rows) }
