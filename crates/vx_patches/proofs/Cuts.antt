-- Chunk offsets of which a slice may have cut a part.
use Rattle.std.proofs.Common.{◌≡◌, ℕ, zero, suc, ◌+◌, ◌-◌, ◌/◌, ◌%◌, ◌≤◌, ◌<◌, min, Bool, true, false, cond, ◌&&◌, nat_lt, nat_eq, List, [], ◌∷◌, ◌++◌, length, get_or, map, refl, sym, ◌∙◌, ap, arith, inl, inr}
use Rattle.std.specs.Prelude.{unwrap_or, Option, Some, None, Ok, Err, ◌≢◌}
use Rattle.std.proofs.lemmas.Bool.{and_parts, cases_lt}
use Rattle.std.proofs.lemmas.Bool.Decides.{nat_tests}
use Rattle.std.proofs.lemmas.List.{length-map}
use Rattle.vx_rows.specs.declared.error.Rule.{Rule}
use Rattle.vx_rows.specs.declared.error.Rule.TheVariants.{ChunkOffsetType, ChunkOffsetCount, ChunkOffsetWrong}
use Rattle.vx_base.specs.Column.{Flat}
use Rattle.vx_base.specs.Numbers.{numbers_of}
use Rattle.vx_base.specs.Checks.{count_below, counts_below, non_decreasing}
use Rattle.vx_base.specs.Rules.{first_broken}
use Rattle.vx_base.proofs.CheckLemmas.{length_numbers, non_decreasing-says}
use Rattle.vx_patches.specs.Places.{Index, IsIndex, HaveChunks, HaveChunkOffsets, chunks_over}
use Rattle.vx_patches.specs.Making.{wrong_type, wrong_number, wrong_cut, index_fault, made, index_rules, value_rules, cut_rules, cut_fault, cut_patches_fault, made_cut, told, keeps_counts}
use Rattle.vx_rows.specs.declared.error.ColumnError.TheVariants.{LengthMismatch}
use Rattle.vx_patches.specs.Pairs.{Overlay, IsOverlay, overlay, pairs_of, mapped}
use Rattle.vx_patches.proofs.Counts.{Rising, below_count, above_count}
use Rattle.vx_patches.proofs.Making.{are_counts, first_holds, not_false, broken-append, broken-front, values_number}

-- ---- the border of a count

-- an index below the place that isn't below the bound
pub too_many : (v : ℕ) (xs : List ℕ) → Rising xs → (p : ℕ) → 0 < p → v ≤ get_or xs (p - 1) 0 → count_below v xs < p
too_many v xs r p some above = elim (cases_lt (p - 1) (count_below v xs)) as (λ _. count_below v xs < p) [
  | inl less ↦ absurd (omega (arith, below_count v xs r (p - 1) less))
  | inr more ↦ omega arith
]

-- an index at the place that is below the bound
pub too_few : (v : ℕ) (xs : List ℕ) → Rising xs → (p : ℕ) → p < length xs → get_or xs p 0 < v → p < count_below v xs
too_few v xs r p inside below = elim (cases_lt p (count_below v xs)) as (λ _. p < count_below v xs) [
  | inl less ↦ less
  | inr more ↦ absurd (omega (arith, above_count v xs r p more inside))
]

pub more_than : (p n : ℕ) → n < p → false ≡ nat_eq p n
more_than p n h = grind (arith, nat_tests)

pub less_than : (p n : ℕ) → p < n → false ≡ nat_eq p n
less_than p n h = grind (arith, nat_tests)

pub as_many : (p n : ℕ) → n ≡ p → true ≡ nat_eq p n
as_many p n h = grind (arith, nat_tests)

-- ---- what the entries say

pub length_told : (w m : ℕ) (os : List ℕ) → length (told w m os) ≡ length os
length_told w m os = length-map os (λ n. min (n - get_or os 0 0 - w) m)

pub told_at : (w m : ℕ) (os : List ℕ) (i : ℕ) → i < length os → get_or (told w m os) i 0 ≡ min (get_or os i 0 - get_or os 0 0 - w) m
told_at w m os i h = by_map os i h
  where
    by_map : (ns : List ℕ) (k : ℕ) → k < length ns → get_or (map (λ n. min (n - get_or os 0 0 - w) m) ns) k 0 ≡ min (get_or ns k 0 - get_or os 0 0 - w) m
    by_map [] k l = absurd (omega arith)
    by_map (n ∷ ns) zero l = refl
    by_map (n ∷ ns) (suc k) l = by_map ns k (omega arith)

pub cut_chunks : (len offset w : ℕ) (xs co : List ℕ) → length co ≡ chunks_over (offset % 1024 + len) → keeps_counts (offset / 1024) w xs co ≡ true → HaveChunkOffsets len offset xs co w
cut_chunks len offset w xs co number e =
    let p = and_parts (nat_lt (w + length xs) 18446744073709551616) (non_decreasing co && counts_below (offset / 1024) (told w (length xs) co) xs) e in
    let q = and_parts (non_decreasing co) (counts_below (offset / 1024) (told w (length xs) co) xs) p.1 in
    let fits : w + length xs < 18446744073709551616 = grind (arith, nat_tests) in
    let counts = are_counts (offset / 1024) (told w (length xs) co) xs q.1 in
    record {
      number = number;
      rise = non_decreasing-says co q.0;
      counts = λ i l. sym (told_at w (length xs) co i l) ∙ counts i (omega (arith, length_told w (length xs) co));
      fits = fits;
    }

cut_held : (index : Index) → (offsets : Option Flat) (within : Option ℕ) → cut_fault index.len index.offset index.indices offsets within ≡ None →
    HaveChunks index.len index.offset (numbers_of index.indices.rows) offsets (unwrap_or within 0)
unfolding first_broken
cut_held index None None e = refl
cut_held index None (Some w) e = absurd (cc)
cut_held index (Some c) None e =
    let a = first_holds (wrong_type c) ChunkOffsetType (cond (wrong_number index.len index.offset c) (Some ChunkOffsetCount) (Some ChunkOffsetWrong)) e in
    let b = first_holds (wrong_number index.len index.offset c) ChunkOffsetCount (Some ChunkOffsetWrong) a.1 in
    absurd (cc b.1)
cut_held index (Some c) (Some w) e =
    let wrong = wrong_cut index.offset index.indices c (Some w) in
    let a = first_holds (wrong_type c) ChunkOffsetType (cond (wrong_number index.len index.offset c) (Some ChunkOffsetCount) (cond wrong (Some ChunkOffsetWrong) None)) e in
    let b = first_holds (wrong_number index.len index.offset c) ChunkOffsetCount (cond wrong (Some ChunkOffsetWrong) None) a.1 in
    let d = first_holds wrong ChunkOffsetWrong None b.1 in
    let number : nat_eq (length c.rows) (chunks_over (index.offset % 1024 + index.len)) ≡ true = not_false _ b.0 in
    let same : length c.rows ≡ chunks_over (index.offset % 1024 + index.len) = grind (arith, nat_tests) in (
      not_false _ a.0,
      cut_chunks index.len index.offset w (numbers_of index.indices.rows) (numbers_of c.rows) (length_numbers c.rows ∙ same) (not_false _ d.0),
    )

-- chunk offsets that break no rule
pub cut_made : (index : Index) → IsIndex index → (offsets : Option Flat) (within : Option ℕ) → cut_fault index.len index.offset index.indices offsets within ≡ None →
    IsIndex (made_cut index.len index.offset index.indices offsets within)
cut_made index i offsets within e =
    record { short = i.short; unsigned = i.unsigned; some = i.some; rising = i.rising; above = i.above; below = i.below; chunks = cut_held index offsets within e }

-- ---- new values

pub mapped_apart : (o : Overlay) (values : Flat) (expected found : ℕ) → expected ≡ length (pairs_of o) → found ≡ length values.rows → found ≢ expected →
    Err (LengthMismatch expected found) ≡ mapped o (Ok values)
mapped_apart o values expected found e f apart =
    let no : nat_eq (length values.rows) (length (pairs_of o)) ≡ false = grind (arith, nat_tests) in
    rw (no, e, f) refl

pub mapped_alike : (o : Overlay) (values : Flat) (expected found : ℕ) → expected ≡ length (pairs_of o) → found ≡ length values.rows → found ≡ expected →
    Ok (overlay o.index values) ≡ mapped o (Ok values)
mapped_alike o values expected found e f same =
    let yes : nat_eq (length values.rows) (length (pairs_of o)) ≡ true = grind (arith, nat_tests) in
    rw yes refl

-- ---- the first rule that is broken

-- the rules of values are tried after those of the indices
pub values_broken : (len offset : ℕ) (indices values : Flat) (qs : List (Rule × Bool)) (rule : Rule) → index_fault len offset indices None ≡ None →
    first_broken (value_rules indices values) ≡ Some rule → first_broken (index_rules len offset indices ++ (value_rules indices values ++ qs)) ≡ Some rule
values_broken len offset indices values qs rule e f =
    broken-append (index_rules len offset indices) (value_rules indices values ++ qs) e ∙ broken-front (value_rules indices values) qs rule f

-- and those of the chunk offsets after both
pub cut_broken : (index : Index) (len offset : ℕ) (indices values : Flat) (offsets : Option Flat) (within : Option ℕ) → index ≡ made len offset indices None → index_fault len offset indices None ≡ None →
    first_broken (value_rules indices values) ≡ None → cut_patches_fault len offset indices values offsets within ≡ cut_fault index.len index.offset index.indices offsets within
cut_broken index len offset indices values offsets within made_of e f =
    broken-append (index_rules len offset indices) (value_rules indices values ++ cut_rules len offset indices offsets within) e
    ∙ broken-append (value_rules indices values) (cut_rules len offset indices offsets within) f
    ∙ sym (ap (λ (n : Index). cut_fault n.len n.offset n.indices offsets within) made_of)

pub overlay_cut : (index places : Index) (seen values : Flat) (offsets : Option Flat) (within : Option ℕ) → IsIndex index → index ≡ made_cut places.len places.offset places.indices offsets within →
    seen ≡ places.indices → first_broken (value_rules seen values) ≡ None → IsOverlay (overlay index values)
overlay_cut index places seen values offsets within i made_of s e =
    let number : length values.rows ≡ length seen.rows = values_number seen values e in
    let same : seen ≡ index.indices = s ∙ sym (ap (λ (n : Index). n.indices) made_of) in
    record { index = i; values = number ∙ ap (λ (c : Flat). length c.rows) same ∙ sym (length_numbers index.indices.rows) }
