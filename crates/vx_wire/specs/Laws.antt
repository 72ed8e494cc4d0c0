-- Laws of the metadata bytes, over all byte strings and messages.
use Rattle.std.specs.Prelude.{◌≡◌, ℕ, ◌<◌, ◌++◌, List}
use Rattle.vx_rows.specs.declared.error.WireFault.{WireFault}
use Rattle.vx_wire.specs.declared.patched.PatchedMetadata.{PatchedMetadata}
use Rattle.vx_wire.specs.Fields.{Field, IsField, StandsFor, tag_of, field_bytes}
use Rattle.vx_wire.specs.Faults.{FirstFault}
use Rattle.vx_wire.specs.Messages.{Patches, ArePatches, SaysPatches, patches_bytes, AreLanes, SaysLanes, lanes_bytes}

-- bytes stand for one list of fields at most
abbrev pub OneReading : Type 0
OneReading = (known : ℕ) (bytes : List ℕ) (a b : List Field) → StandsFor known bytes a → StandsFor known bytes b → a ≡ b

-- bytes that stand for fields have no fault
abbrev pub NoFaultWhereRead : Type 0
NoFaultWhereRead = (known : ℕ) (bytes : List ℕ) (fields : List Field) (fault : WireFault) →
    StandsFor known bytes fields → FirstFault known bytes fault → ⊥

-- bytes have one first fault at most
abbrev pub OneFault : Type 0
OneFault = (known : ℕ) (bytes : List ℕ) (a b : WireFault) → FirstFault known bytes a → FirstFault known bytes b → a ≡ b

-- the canonical bytes of a message say this message
abbrev pub PatchesReadBack : Type 0
PatchesReadBack = (m : Patches) → ArePatches m → SaysPatches (patches_bytes m) m

abbrev pub LanesReadBack : Type 0
LanesReadBack = (m : PatchedMetadata) → AreLanes m → SaysLanes (lanes_bytes m) m

-- a field of an unknown tag changes no message: so each message has more spellings than the canonical one
abbrev pub UnknownIsPassedOver : Type 0
UnknownIsPassedOver = (bytes : List ℕ) (m : Patches) (f : Field) → SaysPatches bytes m → IsField 6 f → 6 < tag_of f → SaysPatches (bytes ++ field_bytes f) m
