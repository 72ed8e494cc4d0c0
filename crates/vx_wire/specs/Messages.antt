-- The two messages: what the last contents of their tags say, and their canonical bytes.
use Rattle.std.specs.Prelude.{◌≡◌, ℕ, ℤ, ◌*◌, ◌%◌, ◌^◌, ◌<◌, ◌==◌, List, [], ◌++◌, Option, Some, None, if◌then◌else◌, unwrap_or, FitsSigned, IfSome, nat_le, Result, Ok, Err}
use Rattle.vx_rows.specs.declared.error.WireFault.{WireFault}
use Rattle.vx_rows.specs.declared.error.WireFault.TheVariants.{TooLarge}
use Rattle.std.specs.Option.{option_map}
use Rattle.std.specs.Int.{w32, w64, cast_signed, cast_unsigned}
use Rattle.vx_wire.specs.Varints.{varint}
use Rattle.vx_wire.specs.Fields.{Field, StandsFor, last_under}
use Rattle.vx_wire.specs.declared.patched.PatchedMetadata.{PatchedMetadata}

-- what describes patches
pub record Patches : Type 0 where
  pub len : ℕ
  pub offset : ℕ
  pub indices_type : ℤ
  pub chunk_offsets_len : Option ℕ
  pub chunk_offsets_type : Option ℤ
  pub offset_within_chunk : Option ℕ

-- a plain field that no content was given is 0
abbrev pub plain : Option ℕ → ℕ
plain number = unwrap_or number 0

-- the low 32 bits of a number
abbrev pub low_bits : ℕ → ℕ
low_bits n = n % 2 ^ 32

-- a number as a length
abbrev pub size_in : ℕ → Result ℕ WireFault
size_in n = if nat_le n 18446744073709551615 then Ok n else Err TooLarge

-- a number of a type: the low 32 bits, as signed
abbrev pub type_in : ℕ → ℤ
type_in n = cast_signed w32 (low_bits n)

-- each field is the last content of its tag
abbrev pub patches_of : List Field → Patches
patches_of fields = record {
  len = plain (last_under 1 fields);
  offset = plain (last_under 2 fields);
  indices_type = type_in (plain (last_under 3 fields));
  chunk_offsets_len = last_under 4 fields;
  chunk_offsets_type = option_map type_in (last_under 5 fields);
  offset_within_chunk = last_under 6 fields;
}

abbrev pub lanes_of : List Field → PatchedMetadata
lanes_of fields = record {
  n_patches = low_bits (plain (last_under 1 fields));
  n_lanes = low_bits (plain (last_under 2 fields));
  offset = low_bits (plain (last_under 3 fields));
}

-- the bytes stand for fields that say this message
pub record SaysPatches (bytes : List ℕ) (message : Patches) : Type 0 where
  pub fields : List Field
  pub stands : StandsFor 6 bytes fields
  pub says : message ≡ patches_of fields

pub record SaysLanes (bytes : List ℕ) (message : PatchedMetadata) : Type 0 where
  pub fields : List Field
  pub stands : StandsFor 3 bytes fields
  pub says : message ≡ lanes_of fields

-- a key of wire type 0, and a number
abbrev pub number_field : ℕ → ℕ → List ℕ
number_field tag n = varint (tag * 8) ++ varint n

-- a plain field of value 0 isn't written
unfoldable pub plain_field : ℕ → ℕ → List ℕ
plain_field tag n = if n == 0 then [] else number_field tag n

-- an optional field that is present always is
unfoldable pub optional_field : ℕ → Option ℕ → List ℕ
optional_field tag None = []
optional_field tag (Some n) = number_field tag n

-- a negative number of a type is written as that number plus 2^64
abbrev pub type_number : ℤ → ℕ
type_number z = cast_unsigned w64 z

-- the canonical bytes
abbrev pub patches_bytes : Patches → List ℕ
patches_bytes m =
    plain_field 1 m.len ++ plain_field 2 m.offset ++ plain_field 3 (type_number m.indices_type)
    ++ optional_field 4 m.chunk_offsets_len ++ optional_field 5 (option_map type_number m.chunk_offsets_type)
    ++ optional_field 6 m.offset_within_chunk

abbrev pub lanes_bytes : PatchedMetadata → List ℕ
lanes_bytes m = plain_field 1 m.n_patches ++ plain_field 2 m.n_lanes ++ plain_field 3 m.offset

-- the numbers of a message are in their ranges
pub record ArePatches (m : Patches) : Type 0 where
  pub len : m.len < 2 ^ 64
  pub offset : m.offset < 2 ^ 64
  pub indices_type : FitsSigned w32 m.indices_type
  pub chunk_offsets_len : IfSome m.chunk_offsets_len (λ n. n < 2 ^ 64)
  pub chunk_offsets_type : IfSome m.chunk_offsets_type (FitsSigned w32)
  pub offset_within_chunk : IfSome m.offset_within_chunk (λ n. n < 2 ^ 64)

pub record AreLanes (m : PatchedMetadata) : Type 0 where
  pub n_patches : m.n_patches < 2 ^ 32
  pub n_lanes : m.n_lanes < 2 ^ 32
  pub offset : m.offset < 2 ^ 32
