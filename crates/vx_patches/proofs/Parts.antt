-- The parts of exceptions break no rule, and make them again.
use Rattle.std.proofs.Common.{◌≡◌, ℕ, suc, ◌+◌, ◌-◌, ◌*◌, ◌/◌, ◌%◌, ◌≤◌, ◌<◌, Bool, true, false, cond, nat_le, nat_lt, nat_eq, List, [], ◌∷◌, ◌++◌, length, get_or, refl, sym, ◌∙◌, ap, arith}
use Rattle.std.specs.Prelude.{unwrap_or, Option, Some, None, not}
use Rattle.std.proofs.lemmas.Bool.Decides.{nat_tests}
use Rattle.vx_rows.specs.declared.error.Rule.{Rule}
use Rattle.vx_base.specs.Column.{Flat}
use Rattle.vx_base.specs.Numbers.{numbers_of}
use Rattle.vx_base.specs.Checks.{count_below, counts_below, all_within, non_decreasing}
use Rattle.vx_base.specs.Rules.{first_broken}
use Rattle.vx_base.proofs.CheckLemmas.{length_numbers, says-non_decreasing, says-strictly_increasing}
use Rattle.vx_patches.specs.Places.{Index, IsIndex, HaveChunks, HaveChunkOffsets, chunks_over, within_chunk}
use Rattle.vx_patches.specs.Making.{index_rules, value_rules, cut_rules, told, keeps_counts}
use Rattle.vx_patches.specs.Pairs.{Overlay, IsOverlay}
use Rattle.vx_patches.specs.Laws.{PartsHold}
use Rattle.vx_patches.proofs.Counts.{above_first, below_last}
use Rattle.vx_patches.proofs.Making.{AreCounts, broken-append}
use Rattle.vx_patches.proofs.Cuts.{told_at, length_told}

all_from : (lo : ℕ) (xs : List ℕ) → ((k : ℕ) → k < length xs → lo ≤ get_or xs k 0) → all_within lo None xs ≡ true
all_from lo [] h = refl
all_from lo (x ∷ xs) h =
    let first : lo ≤ x = h 0 (omega arith) in
    let here : nat_le lo x ≡ true = grind (arith, nat_tests) in
    rw here (all_from lo xs (λ k l. h (suc k) (omega arith)))

all_below : (hi : ℕ) (xs : List ℕ) → ((k : ℕ) → k < length xs → get_or xs k 0 < hi) → all_within 0 (Some hi) xs ≡ true
all_below hi [] h = refl
all_below hi (x ∷ xs) h =
    let first : x < hi = h 0 (omega arith) in
    let low : nat_le 0 x ≡ true = grind (arith, nat_tests) in
    let high : nat_lt x hi ≡ true = grind (arith, nat_tests) in
    rw (low, high) (all_below hi xs (λ k l. h (suc k) (omega arith)))

counts_told : (first : ℕ) (offsets indices : List ℕ) → AreCounts first indices offsets → counts_below first offsets indices ≡ true
counts_told first [] indices h = refl
counts_told first (n ∷ ns) indices h =
    let plain : first + 0 ≡ first = omega arith in
    let same : n ≡ count_below (1024 * first) indices = h 0 (omega arith) ∙ ap (λ (k : ℕ). count_below (1024 * k) indices) plain in
    let here : nat_eq n (count_below (1024 * first) indices) ≡ true = grind (arith, nat_tests) in
    rw here (counts_told (first + 1) ns indices (λ i l. let next : first + suc i ≡ first + 1 + i = omega arith in h (suc i) (omega arith) ∙ ap (λ (k : ℕ). count_below (1024 * k) indices) next))

passes : (b : Bool) (rule : Rule) (o : Option Rule) → b ≡ false → o ≡ None → cond b (Some rule) o ≡ None
passes b rule o e f = rw e f

holds : (b : Bool) → b ≡ true → not b ≡ false
holds b e = rw e refl

indices_hold : (index : Index) → IsIndex index → first_broken (index_rules index.len index.offset index.indices) ≡ None
unfolding first_broken
indices_hold index i =
    let xs = numbers_of index.indices.rows in
    let long = length_numbers index.indices.rows in
    let short : index.offset + index.len < 18446744073709551616 = i.short in
    let some : 0 < length index.indices.rows = omega (arith, i.some) in
    let fits : nat_le 18446744073709551616 (index.offset + index.len) ≡ false = grind (arith, nat_tests) in
    let there : nat_eq (length index.indices.rows) 0 ≡ false = grind (arith, nat_tests) in
    passes _ _ _ fits
    (passes _ _ _ there
    (passes _ _ _ (holds _ i.unsigned)
    (passes _ _ _ (holds _ (says-strictly_increasing xs i.rising))
    (passes _ _ _ (holds _ (all_from index.offset xs (above_first index.offset xs i.rising i.above)))
    (passes _ _ _ (holds _ (all_below (index.offset + index.len) xs (below_last (index.offset + index.len) xs i.rising i.below))) refl)))))

values_hold : (o : Overlay) → IsOverlay o → first_broken (value_rules o.index.indices o.values) ≡ None
unfolding first_broken
values_hold o s =
    let same : length o.values.rows ≡ length o.index.indices.rows = s.values ∙ length_numbers o.index.indices.rows in
    let yes : nat_eq (length o.values.rows) (length o.index.indices.rows) ≡ true = grind (arith, nat_tests) in
    passes _ _ _ (holds _ yes) refl

keeps : (len offset w : ℕ) (xs co : List ℕ) → HaveChunkOffsets len offset xs co w → keeps_counts (offset / 1024) w xs co ≡ true
keeps len offset w xs co h =
    let fits : w + length xs < 18446744073709551616 = h.fits in
    let small : nat_lt (w + length xs) 18446744073709551616 ≡ true = grind (arith, nat_tests) in
    let up : non_decreasing co ≡ true = says-non_decreasing co h.rise in
    let counts : counts_below (offset / 1024) (told w (length xs) co) xs ≡ true =
    counts_told (offset / 1024) (told w (length xs) co) xs
    (λ i l. let inside : i < length co = omega (arith, length_told w (length xs) co) in told_at w (length xs) co i inside ∙ h.counts i inside) in
    rw (small, up) counts

chunks_hold : (len offset : ℕ) (indices : Flat) (offsets : Option Flat) (w : ℕ) → HaveChunks len offset (numbers_of indices.rows) offsets w →
    first_broken (cut_rules len offset indices offsets (within_chunk (record { len = len; offset = offset; indices = indices; chunk_offsets = offsets; within = w }))) ≡ None
unfolding first_broken
chunks_hold len offset indices None w h = refl
chunks_hold len offset indices (Some c) w h =
    let same : length c.rows ≡ chunks_over (offset % 1024 + len) = sym (length_numbers c.rows) ∙ h.1.number in
    let number : nat_eq (length c.rows) (chunks_over (offset % 1024 + len)) ≡ true = grind (arith, nat_tests) in
    passes _ _ _ (holds _ h.0) (passes _ _ _ (holds _ number) (passes _ _ _ (holds _ (keeps len offset w (numbers_of indices.rows) (numbers_of c.rows) h.1)) refl))

made_again : (len offset : ℕ) (indices : Flat) (offsets : Option Flat) (w : ℕ) → HaveChunks len offset (numbers_of indices.rows) offsets w →
    unwrap_or (within_chunk (record { len = len; offset = offset; indices = indices; chunk_offsets = offsets; within = w })) 0 ≡ w
made_again len offset indices None w h = sym h
made_again len offset indices (Some c) w h = refl

pub parts_hold : PartsHold
parts_hold o s =
    let i = o.index in (
      broken-append (index_rules i.len i.offset i.indices) (value_rules i.indices o.values ++ cut_rules i.len i.offset i.indices i.chunk_offsets (within_chunk i)) (indices_hold i s.index)
          ∙ broken-append (value_rules i.indices o.values) (cut_rules i.len i.offset i.indices i.chunk_offsets (within_chunk i)) (values_hold o s)
          ∙ chunks_hold i.len i.offset i.indices i.chunk_offsets i.within s.index.chunks,
      ap (λ (w : ℕ). record { len = i.len; offset = i.offset; indices = i.indices; chunk_offsets = i.chunk_offsets; within = w }) (made_again i.len i.offset i.indices i.chunk_offsets i.within s.index.chunks),
    )
