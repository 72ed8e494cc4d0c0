-- Fields: a key, which is a varint of a tag and a wire type, and content by that wire type.
use Rattle.std.specs.Prelude.{◌≡◌, ℕ, ◌/◌, ◌%◌, ◌≤◌, ◌==◌, List, [], ◌∷◌, ◌++◌, length, Option, Some, None, if◌then◌else◌}
use Rattle.std.specs.List.{AllByRecursion, flat_map}
use Rattle.std.specs.Option.{option_or}
use Rattle.vx_wire.specs.declared.field.Wire.{Wire}
use Rattle.vx_wire.specs.declared.field.Wire.TheVariants as wires
use Rattle.vx_wire.specs.Varints.{number_of, IsVarint}

-- the content of a field: a varint, eight bytes, a text behind its size, or four bytes
pub data Content : Type 0 where
  Varint : (bytes : List ℕ) → Content
  Eight : (bytes : List ℕ) → Content
  Sized : (size text : List ℕ) → Content
  Four : (bytes : List ℕ) → Content

-- which of the wire types it is
abbrev pub wire_of : Content → Wire
wire_of (Varint bytes) = wires.Varint
wire_of (Eight bytes) = wires.Eight
wire_of (Sized size text) = wires.Sized
wire_of (Four bytes) = wires.Four

-- the number of a wire type
abbrev pub wire_number : Wire → ℕ
wire_number wires.Varint = 0
wire_number wires.Eight = 1
wire_number wires.Sized = 2
wire_number wires.Four = 5

abbrev pub IsContent : Content → Type 0
IsContent (Varint bytes) = IsVarint bytes
IsContent (Eight bytes) = length bytes ≡ 8
IsContent (Sized size text) = IsVarint size × (number_of size ≡ length text)
IsContent (Four bytes) = length bytes ≡ 4

abbrev pub content_bytes : Content → List ℕ
content_bytes (Varint bytes) = bytes
content_bytes (Eight bytes) = bytes
content_bytes (Sized size text) = size ++ text
content_bytes (Four bytes) = bytes

-- the number that is content, if it is one
abbrev pub number_in : Content → Option ℕ
number_in (Varint bytes) = Some (number_of bytes)
number_in (Eight bytes) = None
number_in (Sized size text) = None
number_in (Four bytes) = None

-- a field is the bytes of its key, and its content
pub record Field : Type 0 where
  pub key : List ℕ
  pub content : Content

abbrev pub field_bytes : Field → List ℕ
field_bytes f = f.key ++ content_bytes f.content

abbrev pub tag_of : Field → ℕ
tag_of f = number_of f.key / 8

-- tags up to this one are known, and stand before numbers alone
abbrev pub Suits : ℕ → ℕ → Wire → Type 0
Suits known tag wire = tag ≤ known → wire ≡ wires.Varint

-- the tag is at least 1, and the key a number of 32 bits
pub record IsKey (number : ℕ) : Type 0 where
  pub tagged : 1 ≤ number / 8
  pub in_range : number ≤ 4294967295

pub record IsField (known : ℕ) (f : Field) : Type 0 where
  pub key : IsVarint f.key
  pub tag : IsKey (number_of f.key)
  pub wire : number_of f.key % 8 ≡ wire_number (wire_of f.content)
  pub suits : Suits known (tag_of f) (wire_of f.content)
  pub content : IsContent f.content

-- the bytes are those of the fields, joined
pub record StandsFor (known : ℕ) (bytes : List ℕ) (fields : List Field) : Type 0 where
  pub joined : bytes ≡ flat_map field_bytes fields
  pub each : AllByRecursion (IsField known) fields

-- the number of the last field with this tag
abbrev pub last_under : ℕ → List Field → Option ℕ
last_under tag [] = None
last_under tag (f ∷ fields) = option_or (last_under tag fields) (if tag_of f == tag then number_in f.content else None)
