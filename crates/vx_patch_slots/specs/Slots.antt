-- Exceptions in slots: what stands there, and how it is read back.
use Rattle.std.specs.Prelude.{ℕ, ◌+◌, ◌≡◌, ◌⊎◌, nat_le, cond, List, [], ◌∷◌, ◌++◌, length, get_or, Option, Some, None, Result, Ok, Err}
use Rattle.vx_rows.specs.declared.error.ColumnError.{ColumnError}
use Rattle.vx_rows.specs.declared.error.ColumnError.TheVariants.{OutOfMemory, SlotOutOfRange, MissingSlot, Malformed}
use Rattle.vx_rows.specs.declared.error.Rule.{Rule}
use Rattle.vx_base.specs.Column.{Flat}
use Rattle.vx_patches.specs.Places.{within_chunk}
use Rattle.vx_patches.specs.Making.{cut_patches_fault, made_cut}
use Rattle.vx_patches.specs.Pairs.{Overlay, overlay, IsOverlay}
use Rattle.vx_patch_slots.specs.declared.data.PatchSlotIndices.{PatchSlotIndices}
use Rattle.vx_patch_slots.specs.declared.data.PatchesData.{PatchesData}

-- the slots of exceptions: indices, values and chunk offsets, or three empty ones
abbrev pub slots_of : Option Overlay → List (Option Flat)
slots_of None = None ∷ None ∷ None ∷ []
slots_of (Some o) = Some o.index.indices ∷ Some o.values ∷ o.index.chunk_offsets ∷ []

-- what is kept beside them
abbrev pub kept_of : Overlay → PatchesData
kept_of o = record { offset = o.index.offset; offset_within_chunk = within_chunk o.index }

-- the first number that isn't below the number of slots
abbrev pub first_past : ℕ → PatchSlotIndices → Option ℕ
first_past count numbers =
    cond (nat_le count numbers.indices) (Some numbers.indices)
    (cond (nat_le count numbers.values) (Some numbers.values)
    (cond (nat_le count numbers.chunk_offsets) (Some numbers.chunk_offsets) None))

-- exceptions, where they break no rule
abbrev pub judged : Option Rule → Overlay → Result (Option Overlay) ColumnError
judged (Some rule) o = Err (Malformed [] rule)
judged None o = Ok (Some o)

-- the exceptions of the columns in three slots
abbrev pub assembled : PatchesData → ℕ → PatchSlotIndices → Option Flat → Option Flat → Option Flat → Result (Option Overlay) ColumnError
assembled kept len numbers None values offsets = Err (MissingSlot numbers.indices)
assembled kept len numbers (Some indices) None offsets = Err (MissingSlot numbers.values)
assembled kept len numbers (Some indices) (Some values) offsets =
    judged (cut_patches_fault len kept.offset indices values offsets kept.offset_within_chunk)
    (overlay (made_cut len kept.offset indices offsets kept.offset_within_chunk) values)

abbrev pub assembled_in : PatchesData → ℕ → List (Option Flat) → PatchSlotIndices → Option ℕ → Result (Option Overlay) ColumnError
assembled_in kept len slots numbers (Some past) = Err (SlotOutOfRange past)
assembled_in kept len slots numbers None = assembled kept len numbers (get_or slots numbers.indices None) (get_or slots numbers.values None) (get_or slots numbers.chunk_offsets None)

-- the exceptions that stand in slots, where some are kept
abbrev pub read_back : Option PatchesData → ℕ → List (Option Flat) → PatchSlotIndices → Result (Option Overlay) ColumnError
read_back None len slots numbers = Ok None
read_back (Some kept) len slots numbers = assembled_in kept len slots numbers (first_past (length slots) numbers)

-- what a call answers that may run out of memory
abbrev pub IsOrNoMemory : {A : Type 0} → Result A ColumnError → Result A ColumnError → Type 0
IsOrNoMemory answer meant = (answer ≡ Err OutOfMemory) ⊎ (answer ≡ meant)

-- three slots from a number on
abbrev pub slots_from : ℕ → PatchSlotIndices
slots_from n = record { indices = n; values = n + 1; chunk_offsets = n + 2 }

-- exceptions in slots that were appended are read back equal
abbrev pub ReadsBack : Type 0
ReadsBack = (o : Overlay) (slots : List (Option Flat)) → IsOverlay o → read_back (Some (kept_of o)) o.index.len (slots ++ slots_of (Some o)) (slots_from (length slots)) ≡ Ok (Some o)
