-- What the calls that read one part of the bytes give.
use Rattle.std.specs.Prelude.{◌≡◌, ℕ, ◌≤◌, List, ◌++◌, length, Option, None, slice_index_or, slice_set, nat_le, if◌then◌else◌}
use Rattle.vx_wire.specs.declared.field.Wire.{Wire}
use Rattle.vx_wire.specs.Fields.{Content, wire_of, IsContent, content_bytes, number_in, Field, IsField, field_bytes, tag_of, StandsFor, last_under}

-- the bytes begin with so many others, and these follow
pub record Passes (bytes : List ℕ) (count : ℕ) (after : List ℕ) : Type 0 where
  pub passed : List ℕ
  pub count_is : length passed ≡ count
  pub joined : bytes ≡ passed ++ after

-- the bytes begin with content of a wire type, which is this number if it is one, and these follow
pub record ContentAt (bytes : List ℕ) (wire : Wire) (number : Option ℕ) (after : List ℕ) : Type 0 where
  pub content : Content
  pub sound : IsContent content
  pub wire_is : wire ≡ wire_of content
  pub number_is : number ≡ number_in content
  pub joined : bytes ≡ content_bytes content ++ after

-- the bytes begin with a field of this tag, and these follow
pub record FieldAt (known : ℕ) (bytes : List ℕ) (tag : ℕ) (number : Option ℕ) (after : List ℕ) : Type 0 where
  pub field : Field
  pub sound : IsField known field
  pub tag_is : tag ≡ tag_of field
  pub number_is : number ≡ number_in field.content
  pub joined : bytes ≡ field_bytes field ++ after

-- numbers by tag are the last ones of the fields that the bytes stand for
pub record AreLastNumbers (known : ℕ) (bytes : List ℕ) (numbers : List (Option ℕ)) : Type 0 where
  pub fields : List Field
  pub stands : StandsFor known bytes fields
  pub last : (tag : ℕ) → 1 ≤ tag → tag ≤ known → slice_index_or numbers tag None ≡ last_under tag fields

-- the numbers with one more: that of an unknown tag isn't kept
abbrev pub kept : ℕ → List (Option ℕ) → ℕ → Option ℕ → List (Option ℕ)
kept known numbers tag number = if nat_le tag known then slice_set numbers tag number else numbers
