-- What metadata says of exceptions.
use Rattle.std.specs.Prelude.{ℕ, ℤ, pos, ◌≡◌, ◌≤◌, ◌<◌, ◌⊎◌, length, Option, Some, None}
use Rattle.std.specs.Option.{option_map}
use Rattle.vx_rows.specs.declared.kinds.PType.{PType}
use Rattle.vx_rows.specs.declared.dtype.DType.{DType}
use Rattle.vx_rows.specs.declared.error.ColumnError.{ColumnError}
use Rattle.vx_rows.specs.declared.error.ColumnError.TheVariants.{LengthMismatch, MismatchedTypes}
use Rattle.vx_base.specs.Column.{Flat}
use Rattle.vx_search.specs.Numbers.{ptype_of}
use Rattle.vx_patches.specs.Places.{within_chunk}
use Rattle.vx_patches.specs.Pairs.{Overlay, pairs_of}
use Rattle.vx_wire.specs.Messages.{Patches}
use Rattle.vx_wire.specs.TypeNumbers.{number_of_type}

abbrev pub number_or_zero : Option PType → ℤ
number_or_zero (Some ptype) = number_of_type ptype
number_or_zero None = pos 0

-- the type of chunk offsets, where there are some
abbrev pub offsets_ptype : Option Flat → Option PType
offsets_ptype (Some offsets) = ptype_of offsets.dtype
offsets_ptype None = None

-- how many exceptions there are, from which row number on, and what their indices and chunk offsets are
abbrev pub metadata_of : Overlay → Patches
metadata_of o = record {
  len = length (pairs_of o);
  offset = o.index.offset;
  indices_type = number_or_zero (ptype_of o.index.indices.dtype);
  chunk_offsets_len = option_map (λ offsets. length offsets.rows) o.index.chunk_offsets;
  chunk_offsets_type = option_map number_of_type (offsets_ptype o.index.chunk_offsets);
  offset_within_chunk = within_chunk o.index;
}

-- why there is none: more exceptions than rows, or else values of another type
abbrev pub MetadataCause : Overlay → ℕ → DType → ColumnError → Type 0
MetadataCause o len dtype e =
    ((e ≡ LengthMismatch len (length (pairs_of o))) × (len < length (pairs_of o)))
    ⊎ ((e ≡ MismatchedTypes) × (length (pairs_of o) ≤ len) × (o.values.dtype ≡ dtype → ⊥))
