-- What is wrong with bytes: the first fault in reading order.
use Rattle.std.specs.Prelude.{◌≡◌, ◌⊎◌, ℕ, ◌/◌, ◌%◌, ◌<◌, ◌≤◌, List, ◌++◌, length}
use Rattle.vx_rows.specs.declared.error.WireFault.{WireFault}
use Rattle.vx_rows.specs.declared.error.WireFault.TheVariants.{Truncated, BadVarint, BadKey, WrongWireType, Group}
use Rattle.vx_wire.specs.declared.field.Wire.{Wire}
use Rattle.vx_wire.specs.declared.field.Wire.TheVariants as wires
use Rattle.vx_wire.specs.Varints.{VarintAt, IsVarintFault}
use Rattle.vx_wire.specs.Fields.{wire_number, IsKey, Suits, Field, StandsFor}

-- why a key can't be read at the front
pub record BadKeyAt (bytes : List ℕ) : Type 0 where
  pub number : ℕ
  pub after : List ℕ
  pub found : VarintAt bytes number after
  pub bad : (4294967295 < number) ⊎ (number / 8 ≡ 0) ⊎ (6 ≤ number % 8)

pub record GroupAt (bytes : List ℕ) (tag : ℕ) : Type 0 where
  pub number : ℕ
  pub after : List ℕ
  pub found : VarintAt bytes number after
  pub key : IsKey number
  pub tag_is : tag ≡ number / 8
  pub group : (number % 8 ≡ 3) ⊎ (number % 8 ≡ 4)

abbrev pub IsKeyFault : List ℕ → WireFault → Type 0
IsKeyFault bytes Truncated = IsVarintFault bytes Truncated
IsKeyFault bytes BadVarint = IsVarintFault bytes BadVarint
IsKeyFault bytes BadKey = BadKeyAt bytes
IsKeyFault bytes (Group tag) = GroupAt bytes tag
IsKeyFault bytes _ = ⊥

-- the bytes begin with a key of this tag and wire type, and these follow
pub record KeyAt (bytes : List ℕ) (tag : ℕ) (wire : Wire) (after : List ℕ) : Type 0 where
  pub number : ℕ
  pub found : VarintAt bytes number after
  pub key : IsKey number
  pub tag_is : tag ≡ number / 8
  pub wire_is : number % 8 ≡ wire_number wire

-- there are fewer bytes than that
abbrev pub IsShort : List ℕ → ℕ → WireFault → Type 0
IsShort bytes count fault = (fault ≡ Truncated) × (length bytes < count)

-- fewer bytes than the size says
pub record IsCutShort (bytes : List ℕ) : Type 0 where
  pub size : ℕ
  pub after : List ℕ
  pub found : VarintAt bytes size after
  pub short : length after < size

-- why content of a wire type can't be read at the front
abbrev pub IsContentFault : Wire → List ℕ → WireFault → Type 0
IsContentFault wires.Varint bytes fault = IsVarintFault bytes fault
IsContentFault wires.Eight bytes fault = IsShort bytes 8 fault
IsContentFault wires.Sized bytes fault = IsVarintFault bytes fault ⊎ ((fault ≡ Truncated) × IsCutShort bytes)
IsContentFault wires.Four bytes fault = IsShort bytes 4 fault

-- why what follows a key can't be read: a known tag before other content than a number, or faulty content
abbrev pub FaultAfterKey : ℕ → ℕ → Wire → List ℕ → WireFault → Type 0
FaultAfterKey known tag wire after fault =
    ((fault ≡ WrongWireType tag) × (tag ≤ known) × (wire ≡ wires.Varint → ⊥)) ⊎ (Suits known tag wire × IsContentFault wire after fault)

pub record FaultInField (known : ℕ) (bytes : List ℕ) (fault : WireFault) : Type 0 where
  pub tag : ℕ
  pub wire : Wire
  pub after : List ℕ
  pub found : KeyAt bytes tag wire after
  pub fault_is : FaultAfterKey known tag wire after fault

-- the bytes aren't empty, and begin with no field: this is why
abbrev pub FaultAt : ℕ → List ℕ → WireFault → Type 0
FaultAt known bytes fault = (1 ≤ length bytes) × (IsKeyFault bytes fault ⊎ FaultInField known bytes fault)

-- the first fault: some fields stand before it, however many
pub record FirstFault (known : ℕ) (bytes : List ℕ) (fault : WireFault) : Type 0 where
  pub fields : List Field
  pub before : List ℕ
  pub after : List ℕ
  pub stands : StandsFor known before fields
  pub joined : bytes ≡ before ++ after
  pub found : FaultAt known after fault
