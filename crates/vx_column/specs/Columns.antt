-- What a column means, by recursion over it.
use Rattle.std.specs.Prelude.{◌≡◌, ◌≤◌, ◌<◌, ◌^◌, ◌*◌, ◌⊎◌, ℕ, ◌+◌, IsTrue, List, [], ◌∷◌, map, length, Option, Some, None, Bool, true, ◌&&◌, codes, cond, ◌==◌, nat_lt}
use Rattle.std.specs.List.{slice_range, All}
use Rattle.vx_rows.specs.declared.dtype.DType.{DType}
use Rattle.vx_rows.specs.declared.error.ColumnError.{ColumnError}
use Rattle.vx_rows.specs.declared.error.ColumnError.TheVariants.{OutOfMemory, Malformed}
use Rattle.vx_rows.specs.declared.error.Rule.TheVariants.{TooLong, ChunkType}
use Rattle.vx_base.specs.Column.{Flat, flat, IsFlat}
use Rattle.vx_search.specs.Places.{search_bound}
use Rattle.vx_patches.specs.Places.{Index}
use Rattle.vx_patches.specs.Search.{search_cost}
use Rattle.vx_patches.specs.Slices.{cut_cost as places_cut_cost}
use Rattle.vx_lanes.specs.Layouts.{overlaid, exceptions, chunk_row}
use Rattle.vx_lanes.specs.declared.layout.Layout.{Layout}
use Rattle.vx_interleave.specs.Selections.{Selection, pairs_of}
use Rattle.vx_chunks.specs.Bounds.{total}
use Rattle.vx_chunks.specs.Offsets.{offsets_of}
use Rattle.vx_job.specs.Rows.{Rows, joined, excepted, interleaved, greatest, lane_reads}
use Rattle.vx_column.specs.declared.excepted.Excepted.{Excepted}
use Rattle.vx_column.specs.declared.patched.Patched.{Patched}
use Rattle.vx_column.specs.declared.interleave.Interleave.{Interleave}
use Rattle.vx_job.specs.Kinds.{AreExceptionKinds, AreLaneKinds, AreInterleaveKinds}
use Rattle.vx_column.specs.declared.chunked.Chunked.{Chunked}
use Rattle.vx_column.specs.declared.column.Column.{Column}
use Rattle.vx_column.specs.declared.column.Column.TheOpen.{Column-F}
use Rattle.vx_column.specs.declared.column.Column.TheVariants.{Flat as flat_column}
use Rattle.vx_column.specs.declared.column.Column.TheFolds.{fold-Column, every-Column}

abbrev pub all_true : List Bool → Bool
all_true [] = true
all_true (b ∷ bs) = b && all_true bs

abbrev pub id_step : Column-F (List ℕ) → List ℕ
id_step (Column-F.Flat c) = codes "vx.flat"
id_step (Column-F.Chunked chunked) = codes "vortex.chunked"
id_step (Column-F.Patched patched) = codes "vortex.patched"
id_step (Column-F.Excepted excepted) = codes "vx.excepted"
id_step (Column-F.Interleave interleave) = codes "vortex.interleave"

-- the name of the encoding
abbrev pub id_of : Column → List ℕ
id_of = fold-Column (List ℕ) id_step

abbrev pub type_step : Column-F DType → DType
type_step (Column-F.Flat c) = c.dtype
type_step (Column-F.Chunked chunked) = chunked.dtype
type_step (Column-F.Patched patched) = patched.inner
type_step (Column-F.Excepted excepted) = excepted.base
type_step (Column-F.Interleave interleave) = interleave.dtype

abbrev pub type_of : Column → DType
type_of = fold-Column DType type_step

abbrev pub rows_step : Column-F Rows → Rows
rows_step (Column-F.Flat c) = c.rows
rows_step (Column-F.Chunked chunked) = joined chunked.chunks
rows_step (Column-F.Patched patched) = overlaid patched.lanes patched.inner
rows_step (Column-F.Excepted e) = excepted e.index e.values e.base
rows_step (Column-F.Interleave interleave) = interleaved interleave.values (pairs_of interleave.selectors)

-- the rows of a column
abbrev pub rows_of : Column → Rows
rows_of = fold-Column Rows rows_step

abbrev pub point_step : Column-F ℕ → ℕ
point_step (Column-F.Flat c) = 1
point_step (Column-F.Chunked chunked) = search_bound (length chunked.chunks + 1) + greatest chunked.chunks
point_step (Column-F.Patched patched) = lane_reads patched.lanes.n_lanes + patched.inner
point_step (Column-F.Excepted e) = search_cost e.index + (e.base + e.values)
point_step (Column-F.Interleave interleave) = 2 + greatest interleave.values

-- the most that a read raises the ledger by
abbrev pub point_cost : Column → ℕ
point_cost = fold-Column ℕ point_step

abbrev pub cut_step : Column-F ℕ → ℕ
cut_step (Column-F.Flat c) = 0
cut_step (Column-F.Chunked chunked) = search_bound (length chunked.chunks + 1) + greatest chunked.chunks
cut_step (Column-F.Patched patched) = patched.inner
cut_step (Column-F.Excepted e) = places_cut_cost e.index + (e.base + e.values)
cut_step (Column-F.Interleave interleave) = 0

-- the most that a cut end raises the ledger by
abbrev pub cut_cost : Column → ℕ
cut_cost = fold-Column ℕ cut_step

abbrev pub lane_entries : Layout → ℕ
lane_entries layout = length layout.lane_offsets.rows + exceptions layout

abbrev pub lane_step : Column-F ℕ → ℕ
lane_step (Column-F.Flat c) = 0
lane_step (Column-F.Chunked chunked) = total chunked.chunks
lane_step (Column-F.Patched patched) = lane_entries patched.lanes + patched.inner
lane_step (Column-F.Excepted e) = e.base + e.values
lane_step (Column-F.Interleave interleave) = total interleave.values

-- the lane offsets and exceptions
abbrev pub lane_cost : Column → ℕ
lane_cost = fold-Column ℕ lane_step

abbrev pub plain_step : Column-F Bool → Bool
plain_step (Column-F.Flat c) = true
plain_step (Column-F.Chunked chunked) = all_true chunked.chunks
plain_step (Column-F.Patched patched) = patched.inner
plain_step (Column-F.Excepted e) = e.base && e.values
plain_step (Column-F.Interleave interleave) = all_true interleave.values

abbrev pub is_plain : Column → Bool
is_plain = fold-Column Bool plain_step

-- a column that isn't nested: the bounds of reads, slices and copies hold for these
abbrev pub IsPlain : Column → Type 0
IsPlain column = IsTrue (is_plain column)

abbrev pub len_of : Column → ℕ
len_of column = length (rows_of column)

-- its type and its rows together
abbrev pub flat_of : Column → Flat
flat_of column = flat (type_of column) (rows_of column)

-- the most that n rows of a selection raise the ledger by
abbrev pub select_bound : Column → ℕ → ℕ
select_bound column n = 8 * n * point_cost column + lane_cost column

-- the chunks of an array in order, and the type that it declares
abbrev pub chunks_of : Chunked Column → List Column
chunks_of array = array.chunks

abbrev pub declared_type : Chunked Column → DType
declared_type array = array.dtype

-- the base and the values of exceptions, and their places
abbrev pub base_of : Excepted Column → Column
base_of array = array.base

abbrev pub values_of : Excepted Column → Column
values_of array = array.values

abbrev pub index_of : Excepted Column → Index
index_of array = array.index

abbrev pub listed : Option Flat → List Flat
listed None = []
listed (Some chunk_offsets) = chunk_offsets ∷ []

-- the flat slots of places: the indices, and the chunk offsets where there are any
abbrev pub slots_in : Index → List Flat
slots_in index = index.indices ∷ listed index.chunk_offsets

-- the flat slot of chunks of these lengths: their boundaries
abbrev pub offset_slots : List ℕ → List Flat
offset_slots lens = offsets_of lens ∷ []

-- those of a layout: its lane offsets, and the places and the values of its exceptions
abbrev pub lane_slots : Layout → List Flat
lane_slots layout = layout.lane_offsets ∷ layout.patch_indices ∷ layout.patch_values ∷ []

-- those of selectors
abbrev pub selector_slots : Selection → List Flat
selector_slots selectors = selectors.array_indices ∷ selectors.row_indices ∷ []

-- the inner column of lanes, and their layout
abbrev pub inner_of : Patched Column → Column
inner_of array = array.inner

abbrev pub lanes_of : Patched Column → Layout
lanes_of array = array.lanes

-- the values that a column is interleaved of, in order, and their selectors
abbrev pub interleaved_of : Interleave Column → List Column
interleaved_of array = array.values

abbrev pub selectors_of : Interleave Column → Selection
selectors_of array = array.selectors

-- the rows that chunks start to below end of a layout cover: none where there is no chunk
abbrev pub first_covered : Layout → ℕ → ℕ → ℕ
first_covered layout start end = cond (nat_lt start end) (chunk_row layout start) 0

abbrev pub end_covered : Layout → ℕ → ℕ → ℕ
end_covered layout start end = cond (nat_lt start end) (chunk_row layout end) 0

-- of this type
abbrev pub IsOf : DType → Column → Type 0
IsOf t column = type_of column ≡ t

-- the boundaries are the running sums of the chunks' lengths, whose sum is a usize, and each chunk is of the declared type
pub record AreChunks (chunked : Chunked Column) : Type 0 where
  pub bounds : chunked.boundaries ≡ map len_of chunked.chunks
  pub fits : total (map len_of chunked.chunks) < 2 ^ 64
  pub types : All (IsOf chunked.dtype) chunked.chunks

-- one lane for each row of an inner column of integers
abbrev pub AreLanes : Patched Column → Type 0
AreLanes patched = AreLaneKinds patched.lanes (type_of patched.inner) (len_of patched.inner)

-- as many rows as the base has, and a value for each exception
abbrev pub AreExceptions : Excepted Column → Type 0
AreExceptions e = AreExceptionKinds e.index (type_of e.base) (len_of e.base) (type_of e.values) (len_of e.values)

-- each pair names a row of a value
abbrev pub AreInterleaved : Interleave Column → Type 0
AreInterleaved i = AreInterleaveKinds i.selectors i.dtype (map type_of i.values) (map len_of i.values)

-- flat rows fit their type, chunks and the parts of other columns are as they must be, and the flat slots are columns
-- over the rows of these parts
abbrev pub IsSoundLayer : Column-F Column → Type 0
IsSoundLayer (Column-F.Flat c) = IsFlat c
IsSoundLayer (Column-F.Chunked chunked) = AreChunks chunked × (chunked.slots ≡ map flat_column (offset_slots chunked.boundaries))
IsSoundLayer (Column-F.Patched patched) = AreLanes patched × (patched.slots ≡ map flat_column (lane_slots patched.lanes))
IsSoundLayer (Column-F.Excepted e) = AreExceptions e × (e.slots ≡ map flat_column (slots_in e.index))
IsSoundLayer (Column-F.Interleave interleave) = AreInterleaved interleave × (interleave.slots ≡ map flat_column (selector_slots interleave.selectors))

-- so is each layer
abbrev pub IsSound : Column → Type 0
IsSound = every-Column IsSoundLayer

-- the part is a column of rows start to below end of the whole, of its type, and costs no more
pub record IsSliceOf (whole part : Column) (start end : ℕ) : Type 0 where
  pub sound : IsSound part
  pub dtype : type_of part ≡ type_of whole
  pub rows : rows_of part ≡ slice_range (rows_of whole) start end
  pub point : point_cost part ≤ point_cost whole
  pub cut : cut_cost part ≤ cut_cost whole
  pub lanes : lane_cost part ≤ lane_cost whole
  pub plain : IsPlain whole → IsPlain part

-- all rows
abbrev pub IsWhole : Column → ℕ → ℕ → Type 0
IsWhole column start end = (start ≡ 0) × (end ≡ len_of column)

-- a last piece, left out where it has no row
abbrev pub last_piece : Column → List Column
last_piece back = cond (len_of back == 0) [] (back ∷ [])

-- why a chunked column is not made
abbrev pub ChunksCause : DType → List Column → ColumnError → Type 0
ChunksCause t chunks e =
    (e ≡ OutOfMemory) ⊎ (((e ≡ Malformed [] TooLong) × (2 ^ 64 ≤ total (map len_of chunks)))
    ⊎ ((e ≡ Malformed [] ChunkType) × (total (map len_of chunks) < 2 ^ 64) × (All (IsOf t) chunks → ⊥)))
