-- Columns that are made of flat rows, of one chunk, and of chunks.
use Rattle.std.proofs.Common.{arith, refl, ◌∙◌, ap, inl, inr, ◌≡◌, ◌<◌, ◌^◌, List, [], ◌∷◌, length, map, append-nil}
use Rattle.std.proofs.lemmas.List.Elements.{All-from_recursion}
use Rattle.std.specs.List.{All}
use Rattle.vx_rows.specs.declared.dtype.DType.{DType}
use Rattle.vx_rows.specs.declared.error.ColumnError.{ColumnError}
use Rattle.vx_rows.specs.declared.error.ColumnError.TheVariants.{OutOfMemory}
use Rattle.vx_base.specs.Column.{Flat, flat}
use Rattle.vx_chunks.specs.Bounds.{total}
use Rattle.vx_job.specs.Rows.{Rows, joined}
use Rattle.vx_column.specs.Columns.{IsSound, IsOf, len_of, type_of, rows_of, flat_of, ChunksCause}
use Rattle.vx_column.specs.Chunks.{IsMadeOf, FirstChunkCause}
use Rattle.vx_column.specs.declared.chunked.Chunked.{Chunked}
use Rattle.vx_column.specs.declared.column.Column.{Column}
use Rattle.vx_column.specs.declared.column.Column.TheVariants as column
use Rattle.vx_column.proofs.Layers.{type_flat, rows_flat, type_chunked, rows_chunked, total_joined}
use Rattle.vx_column.proofs.Cuts.{len_fits}

-- a flat column is its type and its rows
pub flat_is : (rows : Flat) → flat_of (column.Flat rows) ≡ rows
flat_is rows = λ i. flat (type_flat rows i) (rows_flat rows i)

pub flat_by : (x : Column) (rows other : Flat) → x ≡ column.Flat rows → rows ≡ other → flat_of x ≡ other
flat_by x rows other e f = ap flat_of e ∙ flat_is rows ∙ f

-- chunks of a type, whose rows are joined
pub array_is : (c : Chunked Column) (xs : List Column) (t : DType) (rows : Rows) → c.chunks ≡ xs → c.dtype ≡ t → joined (map rows_of xs) ≡ rows → flat_of (column.Chunked c) ≡ flat t rows
array_is c xs t rows e f g = λ i. flat ((type_chunked c ∙ f) i) ((rows_chunked c ∙ ap (λ ys. joined (map rows_of ys)) e ∙ g) i)

-- an array of one chunk
pub one_is : (x : Column) (c : Chunked Column) → IsMadeOf (x ∷ []) c → flat_of (column.Chunked c) ≡ flat_of x
one_is x c made = array_is c (x ∷ []) (type_of x) (rows_of x) made.0 made.1 (append-nil (rows_of x))

-- chunks of one type that aren't too many rows are refused only where memory runs out
pub only_memory_chunks : (t : DType) (xs : List Column) (e : ColumnError) → total (map len_of xs) < 2 ^ 64 → All (IsOf t) xs → ChunksCause t xs e → e ≡ OutOfMemory
only_memory_chunks t xs e fits types (inl memory) = memory
only_memory_chunks t xs e fits types (inr (inl long)) = absurd (let w = long.1 in omega arith)
only_memory_chunks t xs e fits types (inr (inr other)) = absurd (other.2 types)

pub only_memory_one : (x : Column) (e : ColumnError) → len_of x < 2 ^ 64 → FirstChunkCause (x ∷ []) e → e ≡ OutOfMemory
only_memory_one x e fits why = only_memory_chunks (type_of x) (x ∷ []) e (omega arith) (All-from_recursion (IsOf (type_of x)) (x ∷ []) (refl, tt)) why

-- as many rows as a column has aren't too many
pub rows_fit_in : (c : Chunked Column) (xs : List Column) → IsSound (column.Chunked c) → length (joined (map rows_of xs)) ≡ len_of (column.Chunked c) → total (map len_of xs) < 2 ^ 64
rows_fit_in c xs s e = omega (arith, total_joined xs, len_fits c s)
