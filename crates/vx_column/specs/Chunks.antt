-- What the calls of a chunked column say of its chunks.
use Rattle.std.specs.Prelude.{◌≡◌, not, ◌==◌, List, [], ◌∷◌, filter, Option, Some, None}
use Rattle.vx_base.specs.Column.{flat}
use Rattle.vx_rows.specs.declared.error.ColumnError.{ColumnError}
use Rattle.vx_rows.specs.declared.error.ColumnError.TheVariants.{NoChunks}
use Rattle.vx_column.specs.declared.chunked.Chunked.{Chunked}
use Rattle.vx_column.specs.declared.column.Column.{Column}
use Rattle.vx_column.specs.declared.column.Column.TheVariants.{Flat}
use Rattle.vx_column.specs.Columns.{type_of, len_of, chunks_of, declared_type, ChunksCause}

-- the columns that have a row
abbrev pub filled : List Column → List Column
filled = filter (λ column. not (len_of column == 0))

-- the array has these chunks, of which there are some, and the type of the first
abbrev pub IsMadeOf : List Column → Chunked Column → Type 0
IsMadeOf [] array = ⊥
IsMadeOf (first ∷ others) array = (chunks_of array ≡ first ∷ others) × (declared_type array ≡ type_of first)

-- why an array is not made of its chunks alone
abbrev pub FirstChunkCause : List Column → ColumnError → Type 0
FirstChunkCause [] e = e ≡ NoChunks
FirstChunkCause (first ∷ others) e = ChunksCause (type_of first) (first ∷ others) e

abbrev reduced : Chunked Column → List Column → Option Column
reduced array [] = Some (Flat (flat (declared_type array) []))
reduced array (chunk ∷ []) = Some chunk
reduced array (first ∷ second ∷ others) = None

-- an empty flat column for no chunk, the chunk for one, and none for more
abbrev pub IsReduced : Chunked Column → Option Column → Type 0
IsReduced array column = column ≡ reduced array (chunks_of array)
