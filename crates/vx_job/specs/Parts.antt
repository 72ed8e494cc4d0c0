-- What a part means, what reads of it cost, and its first fault.
use Rattle.std.specs.Prelude.{◌≡◌, ◌≤◌, ◌<◌, ◌^◌, ◌*◌, ◌⊎◌, ℕ, ◌+◌, List, [], ◌∷◌, map, length, take, get_or, replicate, Option, Some, None, IsTrue, IsFalse}
use Rattle.std.specs.List.{All}
use Rattle.vx_rows.specs.Fits.{row_fits}
use Rattle.vx_rows.specs.declared.dtype.DType.{DType}
use Rattle.vx_rows.specs.declared.error.ColumnError.{ColumnError}
use Rattle.vx_rows.specs.declared.error.ColumnError.TheVariants.{OutOfMemory, Malformed, Unsupported, UnknownColumn}
use Rattle.vx_rows.specs.declared.error.Rule.TheVariants.{RowType, TooLong, ChunkType}
use Rattle.vx_search.specs.Places.{search_bound}
use Rattle.vx_chunks.specs.Bounds.{total}
use Rattle.vx_base.specs.Column.{Flat, flat}
use Rattle.vx_patches.specs.Making.{made}
use Rattle.vx_patches.specs.Search.{search_cost}
use Rattle.vx_patches.specs.Slices.{cut_cost as places_cut_cost}
use Rattle.vx_lanes.specs.Layouts.{layout, overlaid}
use Rattle.vx_interleave.specs.Selections.{selection, pairs_of}
use Rattle.vx_job.specs.Kinds.{interleaved_type}
use Rattle.vx_job.specs.Faults.{Fault, error_at, IsLanesFault, IsExceptionsFault, IsInterleaveFault}
use Rattle.vx_job.specs.Faults.Fault.{Broken}
use Rattle.vx_job.specs.Rows.{Rows, joined, excepted, interleaved, greatest, lane_reads}
use Rattle.vx_job.specs.declared.part.Part.{Part, out-Part}
use Rattle.vx_job.specs.declared.part.Part.TheOpen.{Part-F}
use Rattle.vx_job.specs.declared.part.Part.TheFolds.{fold-Part, every-Part}

abbrev pub type_step : Part-F DType → DType
type_step (Part-F.Flat c) = c.dtype
type_step (Part-F.Constant t r n) = t
type_step (Part-F.Chunked t types) = t
type_step (Part-F.Lanes inner n_lanes offset lane_offsets indices values) = inner
type_step (Part-F.Excepted base offset indices values chunk_offsets) = base
type_step (Part-F.Interleaved types array_indices row_indices) = interleaved_type types

-- the type of a part
abbrev pub part_type : Part → DType
part_type = fold-Part DType type_step

abbrev pub rows_step : Part-F Rows → Rows
rows_step (Part-F.Flat c) = c.rows
rows_step (Part-F.Constant t r n) = replicate n r
rows_step (Part-F.Chunked t parts) = joined parts
rows_step (Part-F.Lanes inner n_lanes offset lane_offsets indices values) = overlaid (layout (length inner) n_lanes offset lane_offsets indices values) inner
rows_step (Part-F.Excepted base offset indices values chunk_offsets) = excepted (made (length base) offset indices chunk_offsets) values base
rows_step (Part-F.Interleaved values array_indices row_indices) = interleaved values (pairs_of (selection array_indices row_indices))

-- the rows of a part
abbrev pub part_rows : Part → Rows
part_rows = fold-Part Rows rows_step

-- its type and its rows together
abbrev pub part_flat : Part → Flat
part_flat part = flat (part_type part) (part_rows part)

abbrev pub part_len : Part → ℕ
part_len part = length (part_rows part)

abbrev pub point_step : Part-F ℕ → ℕ
point_step (Part-F.Flat c) = 1
point_step (Part-F.Constant t r n) = 1
point_step (Part-F.Chunked t parts) = search_bound (length parts + 1) + greatest parts
point_step (Part-F.Lanes inner n_lanes offset lane_offsets indices values) = lane_reads n_lanes + inner
point_step (Part-F.Excepted base offset indices values chunk_offsets) = search_cost (made 0 offset indices chunk_offsets) + (base + values)
point_step (Part-F.Interleaved values array_indices row_indices) = 2 + greatest values

-- the most that a read raises the ledger by
abbrev pub part_point_cost : Part → ℕ
part_point_cost = fold-Part ℕ point_step

abbrev pub cut_step : Part-F ℕ → ℕ
cut_step (Part-F.Flat c) = 0
cut_step (Part-F.Constant t r n) = 0
cut_step (Part-F.Chunked t parts) = search_bound (length parts + 1) + greatest parts
cut_step (Part-F.Lanes inner n_lanes offset lane_offsets indices values) = inner
cut_step (Part-F.Excepted base offset indices values chunk_offsets) = places_cut_cost (made 0 offset indices chunk_offsets) + (base + values)
cut_step (Part-F.Interleaved values array_indices row_indices) = 0

-- the most that a cut end of a slice raises the ledger by
abbrev pub part_cut_cost : Part → ℕ
part_cut_cost = fold-Part ℕ cut_step

abbrev pub lane_step : Part-F ℕ → ℕ
lane_step (Part-F.Flat c) = 0
lane_step (Part-F.Constant t r n) = 0
lane_step (Part-F.Chunked t parts) = total parts
lane_step (Part-F.Lanes inner n_lanes offset lane_offsets indices values) = length lane_offsets.rows + length indices.rows + inner
lane_step (Part-F.Excepted base offset indices values chunk_offsets) = base + values
lane_step (Part-F.Interleaved values array_indices row_indices) = total values

-- the lane offsets and exceptions of a part
abbrev pub part_lane_cost : Part → ℕ
part_lane_cost = fold-Part ℕ lane_step

abbrev pub open_step : Part-F ℕ → ℕ
open_step (Part-F.Flat c) = 0
open_step (Part-F.Constant t r n) = 0
open_step (Part-F.Chunked t parts) = total parts
open_step (Part-F.Lanes inner n_lanes offset lane_offsets indices values) = length lane_offsets.rows + length indices.rows + inner
open_step (Part-F.Excepted base offset indices values chunk_offsets) = base + values
open_step (Part-F.Interleaved values array_indices row_indices) = total values

-- the most that opening a part raises the ledger by: the lane offsets and exceptions that are looked through
abbrev pub part_open_cost : Part → ℕ
part_open_cost = fold-Part ℕ open_step

-- the same for parts
abbrev pub open_cost : List Part → ℕ
open_cost parts = total (map part_open_cost parts)

-- the most that n rows of a selection raise the ledger by
abbrev pub part_select_bound : Part → ℕ → ℕ
part_select_bound part n = 8 * n * part_point_cost part + part_lane_cost part

abbrev pub IsPartOf : DType → Part → Type 0
IsPartOf t part = part_type part ≡ t

-- what is wrong with a part over clean ones, the first in order; None where nothing is
abbrev pub IsOwnFault : Part-F Part → Option Fault → Type 0
IsOwnFault (Part-F.Flat c) fault = fault ≡ None
IsOwnFault (Part-F.Constant t r n) None = IsTrue (row_fits t r)
IsOwnFault (Part-F.Constant t r n) (Some fault) = (fault ≡ Broken RowType) × IsFalse (row_fits t r)
IsOwnFault (Part-F.Chunked t parts) None = (total (map part_len parts) < 2 ^ 64) × All (IsPartOf t) parts
IsOwnFault (Part-F.Chunked t parts) (Some fault) =
    ((fault ≡ Broken TooLong) × (2 ^ 64 ≤ total (map part_len parts)))
    ⊎ ((fault ≡ Broken ChunkType) × (total (map part_len parts) < 2 ^ 64) × (All (IsPartOf t) parts → ⊥))
IsOwnFault (Part-F.Lanes inner n_lanes offset lane_offsets indices values) fault =
    IsLanesFault (part_type inner) (part_len inner) n_lanes offset lane_offsets indices values fault
IsOwnFault (Part-F.Excepted base offset indices values chunk_offsets) fault =
    IsExceptionsFault (part_type base) (part_len base) offset indices (part_type values) (part_len values) chunk_offsets fault
IsOwnFault (Part-F.Interleaved values array_indices row_indices) fault =
    IsInterleaveFault (map part_type values) (map part_len values) array_indices row_indices fault

-- the part's own rules
abbrev pub IsCleanLayer : Part-F Part → Type 0
IsCleanLayer part = IsOwnFault part None

-- no part in it breaks a rule
abbrev pub IsClean : Part → Type 0
IsClean = every-Part IsCleanLayer

-- the parts within a part, in order
abbrev pub children : {A : Type 0} → Part-F A → List A
children (Part-F.Flat c) = []
children (Part-F.Constant t r n) = []
children (Part-F.Chunked t parts) = parts
children (Part-F.Lanes inner n_lanes offset lane_offsets indices values) = inner ∷ []
children (Part-F.Excepted base offset indices values chunk_offsets) = base ∷ values ∷ []
children (Part-F.Interleaved values array_indices row_indices) = values

-- the parts in it are clean, and it has a fault of its own, the first that it has
abbrev pub OwnFault : Fault → Part-F Part → Type 0
OwnFault fault part = All IsClean (children part) × IsOwnFault part (Some fault)

-- those before the part of that number are clean, and that part is faulty
abbrev pub At : (Part → Type 0) → ℕ → List Part → Type 0
At Faulty k parts = (k < length parts) × All IsClean (take k parts) × ((d : Part) → Faulty (get_or parts k d))

-- the first fault of the part, in walking order, stands at this path
abbrev pub FaultAt : List ℕ → Fault → Part → Type 0
FaultAt [] fault part = OwnFault fault (out-Part part)
FaultAt (k ∷ path) fault part = At (FaultAt path fault) k (children (out-Part part))

-- the error names the first fault of the part
abbrev pub IsFirstFaultOf : Part → ColumnError → Type 0
IsFirstFaultOf part e = (path : List ℕ) × (fault : Fault) × (e ≡ error_at path fault) × FaultAt path fault part

-- the error names the first fault of the parts
abbrev pub IsFirstFault : List Part → ColumnError → Type 0
IsFirstFault parts e = (k : ℕ) × (path : List ℕ) × (fault : Fault) × (e ≡ error_at (k ∷ path) fault) × At (FaultAt path fault) k parts

-- why a part isn't opened
abbrev pub IsFaultOf : Part → ColumnError → Type 0
IsFaultOf part e = (e ≡ OutOfMemory) ⊎ IsFirstFaultOf part e

-- why a child of that number isn't opened, as the part that holds it tells
abbrev pub IsFaultUnder : ℕ → Part → ColumnError → Type 0
IsFaultUnder number part e = (e ≡ OutOfMemory) ⊎ ((path : List ℕ) × (fault : Fault) × (e ≡ error_at (number ∷ path) fault) × FaultAt path fault part)

-- why parts aren't opened
abbrev pub IsFaultIn : List Part → ColumnError → Type 0
IsFaultIn parts e = (e ≡ OutOfMemory) ⊎ IsFirstFault parts e

-- why the parts of a plan aren't opened
abbrev pub PartsCause : List Part → ColumnError → Type 0
PartsCause parts e = ((e ≡ UnknownColumn 0) × (parts ≡ [])) ⊎ IsFaultIn parts e

-- the same error under a number, or running out of memory
abbrev pub Within : ℕ → ColumnError → ColumnError → Type 0
Within number (Malformed path rule) e = (e ≡ OutOfMemory) ⊎ (e ≡ Malformed (number ∷ path) rule)
Within number (Unsupported path) e = (e ≡ OutOfMemory) ⊎ (e ≡ Unsupported (number ∷ path))
Within number error e = e ≡ error

-- the errors that are true of a list of parts: there is none, or the first fault
abbrev pub IsOpenError : List Part → ColumnError → Type 0
IsOpenError [] e = e ≡ UnknownColumn 0
IsOpenError (part ∷ parts) e = IsFirstFault (part ∷ parts) e
