-- The rules of exceptions, in their order.
use Rattle.std.specs.Prelude.{ℕ, ◌+◌, ◌-◌, ◌*◌, ◌/◌, ◌%◌, Bool, true, not, ◌&&◌, nat_le, nat_lt, nat_eq, min, List, [], ◌∷◌, ◌++◌, length, map, slice_index, Option, Some, None, unwrap_or}
use Rattle.vx_rows.specs.declared.error.Rule.{Rule}
use Rattle.vx_rows.specs.declared.error.Rule.TheVariants.{TooLong, NoExceptions, IndexType, IndexOrder, IndexBelowOffset, IndexPastEnd, ValueCount, ChunkOffsetType, ChunkOffsetCount, ChunkOffsetWrong}
use Rattle.vx_base.specs.Column.{Flat}
use Rattle.vx_base.specs.Numbers.{numbers_of, is_unsigned}
use Rattle.vx_base.specs.Checks.{strictly_increasing, non_decreasing, all_within, counts_below}
use Rattle.vx_base.specs.Rules.{first_broken}
use Rattle.vx_patches.specs.Places.{Index, chunks_over}

-- ---- each rule: true where it is broken

-- offset and length together need more than 64 bits
abbrev pub too_long : ℕ → ℕ → Bool
too_long len offset = nat_le 18446744073709551616 (offset + len)

abbrev pub no_exceptions : Flat → Bool
no_exceptions indices = nat_eq (length indices.rows) 0

-- not of an unsigned type without nulls
abbrev pub wrong_type : Flat → Bool
wrong_type column = not (is_unsigned column.dtype)

-- the indices don't rise strictly
abbrev pub out_of_order : Flat → Bool
out_of_order indices = not (strictly_increasing (numbers_of indices.rows))

-- some index is below the offset
abbrev pub below_offset : ℕ → Flat → Bool
below_offset offset indices = not (all_within offset None (numbers_of indices.rows))

-- some index isn't below the end
abbrev pub past_end : ℕ → Flat → Bool
past_end end indices = not (all_within 0 (Some end) (numbers_of indices.rows))

-- values and indices differ in number
abbrev pub differ_in_number : Flat → Flat → Bool
differ_in_number values indices = not (nat_eq (length values.rows) (length indices.rows))

-- there isn't one chunk offset for each chunk
abbrev pub wrong_number : ℕ → ℕ → Flat → Bool
wrong_number len offset offsets = not (nat_eq (length offsets.rows) (chunks_over (offset % 1024 + len)))

-- some chunk offset isn't the count of the indices before its chunk
abbrev pub wrong_counts : ℕ → Flat → Flat → Bool
wrong_counts offset indices offsets = not (counts_below (offset / 1024) (numbers_of offsets.rows) (numbers_of indices.rows))

-- ---- the first one that is broken

abbrev pub index_rules : ℕ → ℕ → Flat → List (Rule × Bool)
index_rules len offset indices =
    (TooLong, too_long len offset) ∷ (NoExceptions, no_exceptions indices) ∷ (IndexType, wrong_type indices) ∷ (IndexOrder, out_of_order indices)
    ∷ (IndexBelowOffset, below_offset offset indices) ∷ (IndexPastEnd, past_end (offset + len) indices) ∷ []

abbrev pub value_rules : Flat → Flat → List (Rule × Bool)
value_rules indices values = (ValueCount, differ_in_number values indices) ∷ []

-- no rule where there are no chunk offsets
abbrev pub chunk_rules : ℕ → ℕ → Flat → Option Flat → List (Rule × Bool)
chunk_rules len offset indices None = []
chunk_rules len offset indices (Some offsets) =
    (ChunkOffsetType, wrong_type offsets) ∷ (ChunkOffsetCount, wrong_number len offset offsets) ∷ (ChunkOffsetWrong, wrong_counts offset indices offsets) ∷ []

-- the first rule that the indices break
abbrev pub places_fault : ℕ → ℕ → Flat → Option Rule
places_fault len offset indices = first_broken (index_rules len offset indices)

-- the first rule that the chunk offsets break
abbrev pub chunk_fault : ℕ → ℕ → Flat → Option Flat → Option Rule
chunk_fault len offset indices offsets = first_broken (chunk_rules len offset indices offsets)

-- the first rule that places of exceptions break: of the indices, or else of the chunk offsets
abbrev pub index_fault : ℕ → ℕ → Flat → Option Flat → Option Rule
index_fault len offset indices offsets = first_broken (index_rules len offset indices ++ chunk_rules len offset indices offsets)

-- the first rule that exceptions break
abbrev pub patches_fault : ℕ → ℕ → Flat → Flat → Option Flat → Option Rule
patches_fault len offset indices values offsets = first_broken (index_rules len offset indices ++ (value_rules indices values ++ chunk_rules len offset indices offsets))

-- places as they are made: no exception is cut away
abbrev pub made : ℕ → ℕ → Flat → Option Flat → Index
made len offset indices offsets = record { len = len; offset = offset; indices = indices; chunk_offsets = offsets; within = 0 }

-- ---- chunk offsets that lost a part, as those of a slice

-- what each entry says where w exceptions of the first chunk are cut away: its distance from the first entry, less w, which
-- saturates at 0 and at the number of indices
abbrev pub told : ℕ → ℕ → List ℕ → List ℕ
told w m offsets = map (λ n. min (n - slice_index offsets 0 - w) m) offsets

-- what every slice keeps: the entries don't fall, they say the count of the indices before each chunk, and w and the number of
-- indices together fit 64 bits
abbrev pub keeps_counts : ℕ → ℕ → List ℕ → List ℕ → Bool
keeps_counts first w indices offsets =
    nat_lt (w + length indices) 18446744073709551616 && (non_decreasing offsets && counts_below first (told w (length indices) offsets) indices)

-- wrong, too, where it isn't said how many exceptions are cut away
abbrev pub wrong_cut : ℕ → Flat → Flat → Option ℕ → Bool
wrong_cut offset indices offsets None = true
wrong_cut offset indices offsets (Some w) = not (keeps_counts (offset / 1024) w (numbers_of indices.rows) (numbers_of offsets.rows))

-- and where it is said of no chunk offsets
abbrev pub cut_rules : ℕ → ℕ → Flat → Option Flat → Option ℕ → List (Rule × Bool)
cut_rules len offset indices None None = []
cut_rules len offset indices None (Some w) = (ChunkOffsetWrong, true) ∷ []
cut_rules len offset indices (Some offsets) within =
    (ChunkOffsetType, wrong_type offsets) ∷ (ChunkOffsetCount, wrong_number len offset offsets) ∷ (ChunkOffsetWrong, wrong_cut offset indices offsets within) ∷ []

-- the first rule that such chunk offsets break
abbrev pub cut_fault : ℕ → ℕ → Flat → Option Flat → Option ℕ → Option Rule
cut_fault len offset indices offsets within = first_broken (cut_rules len offset indices offsets within)

-- the first rule that exceptions with such chunk offsets break
abbrev pub cut_patches_fault : ℕ → ℕ → Flat → Flat → Option Flat → Option ℕ → Option Rule
cut_patches_fault len offset indices values offsets within =
    first_broken (index_rules len offset indices ++ (value_rules indices values ++ cut_rules len offset indices offsets within))

-- places with such chunk offsets
abbrev pub made_cut : ℕ → ℕ → Flat → Option Flat → Option ℕ → Index
made_cut len offset indices offsets within = record { len = len; offset = offset; indices = indices; chunk_offsets = offsets; within = unwrap_or within 0 }

-- how much is read to judge them, at most
abbrev pub cut_reads : Option Flat → ℕ
cut_reads None = 0
cut_reads (Some offsets) = 3 * length offsets.rows + 1
