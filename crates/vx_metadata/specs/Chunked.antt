-- The serialized form of a chunked array: no bytes stand beside its type, its length, its boundaries and its chunks.
use Rattle.std.specs.Prelude.{◌≡◌, ◌⊎◌, ℕ, List, [], ◌∷◌, map, Option, Some, None, Result, Ok, Err, All}
use Rattle.vx_rows.specs.declared.dtype.DType.{DType}
use Rattle.vx_rows.specs.declared.error.Rule.{Rule}
use Rattle.vx_rows.specs.declared.error.WireFault.TheVariants.{NotEmpty}
use Rattle.vx_rows.specs.declared.error.ColumnError.{ColumnError}
use Rattle.vx_rows.specs.declared.error.ColumnError.TheVariants.{OutOfMemory, Malformed, BadMetadata, MismatchedTypes}
use Rattle.vx_base.specs.Column.{Flat}
use Rattle.vx_chunks.specs.Offsets.{offsets_of}
use Rattle.vx_column.specs.declared.chunked.Chunked.{Chunked}
use Rattle.vx_column.specs.declared.column.Column.{Column}
use Rattle.vx_column.specs.declared.column.Column.TheVariants.{Chunked as chunked_column}
use Rattle.vx_column.specs.Columns.{type_of, rows_of, len_of, IsOf, chunks_of, declared_type}
use Rattle.vx_metadata.specs.Boundaries.{boundary_fault}

-- what is wrong with the chunks: the first rule that their boundaries break, or else a chunk of another type
abbrev pub IsChunkFault : Option Rule → DType → List Column → ColumnError → Type 0
IsChunkFault (Some rule) t chunks e = e ≡ Malformed [] rule
IsChunkFault None t chunks e = (e ≡ MismatchedTypes) × (All (IsOf t) chunks → ⊥)

-- what is wrong with a serialized array, the first in order: a byte of metadata comes before the chunks
abbrev pub IsChunkedFault : DType → ℕ → List ℕ → Flat → List Column → ColumnError → Type 0
IsChunkedFault t len [] offsets chunks e = IsChunkFault (boundary_fault len offsets (map len_of chunks)) t chunks e
IsChunkedFault t len (byte ∷ bytes) offsets chunks e = e ≡ BadMetadata NotEmpty

-- nothing is
pub record IsChunkedForm (t : DType) (len : ℕ) (metadata : List ℕ) (offsets : Flat) (chunks : List Column) : Type 0 where
  pub no_bytes : metadata ≡ []
  pub bounded : boundary_fault len offsets (map len_of chunks) ≡ None
  pub typed : All (IsOf t) chunks

-- why no array is made: the first fault, or want of memory where there is none
abbrev pub ChunkedCause : DType → ℕ → List ℕ → Flat → List Column → ColumnError → Type 0
ChunkedCause t len metadata offsets chunks e =
    IsChunkedFault t len metadata offsets chunks e ⊎ ((e ≡ OutOfMemory) × IsChunkedForm t len metadata offsets chunks)

-- the metadata of an array
abbrev pub chunked_bytes : Chunked Column → List ℕ
chunked_bytes array = []

-- what an array is in its serialized form, with its own chunks and slot
pub record IsChunkedFormOf (array : Chunked Column) (t : DType) (len : ℕ) (metadata : List ℕ) (offsets : Flat) (chunks : List Column) : Type 0 where
  pub dtype_is : t ≡ declared_type array
  pub len_is : len ≡ len_of (chunked_column array)
  pub metadata_is : metadata ≡ chunked_bytes array
  pub offsets_are : offsets ≡ offsets_of (map len_of (chunks_of array))
  pub chunks_are : chunks ≡ chunks_of array

-- an array of the same type and rows, or want of memory
abbrev pub IsChunkedBack : Chunked Column → Result (Chunked Column) ColumnError → Type 0
IsChunkedBack array (Ok other) = (type_of (chunked_column other) ≡ type_of (chunked_column array)) × (rows_of (chunked_column other) ≡ rows_of (chunked_column array))
IsChunkedBack array (Err e) = e ≡ OutOfMemory
