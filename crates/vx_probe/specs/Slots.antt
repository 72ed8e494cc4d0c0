-- The slots of a column: the columns right below, of which one may be absent.
use Rattle.std.specs.Prelude.{List, [], ◌∷◌, ◌++◌, map, Option, Some}
use Rattle.std.specs.Option.{option_map}
use Rattle.vx_chunks.specs.Offsets.{offsets_of}
use Rattle.vx_column.specs.Columns.{len_of, chunks_of, inner_of, lanes_of, lane_slots, base_of, values_of, index_of, interleaved_of, selectors_of, selector_slots}
use Rattle.vx_column.specs.declared.chunked.Chunked.{Chunked}
use Rattle.vx_column.specs.declared.patched.Patched.{Patched}
use Rattle.vx_column.specs.declared.excepted.Excepted.{Excepted}
use Rattle.vx_column.specs.declared.interleave.Interleave.{Interleave}
use Rattle.vx_column.specs.declared.column.Column.{Column}
use Rattle.vx_column.specs.declared.column.Column.TheOpen.{Column-F}
use Rattle.vx_column.specs.declared.column.Column.TheVariants.{Flat as flat_column}
use Rattle.vx_column.specs.declared.column.Column.TheViews.{out-Column}

-- the boundaries, and then the chunks
abbrev pub chunk_slots : Chunked Column → List Column
chunk_slots array = flat_column (offsets_of (map len_of (chunks_of array))) ∷ chunks_of array

-- the inner column, the lane offsets, and the places and the values of the exceptions
abbrev pub patched_slots : Patched Column → List Column
patched_slots array = inner_of array ∷ map flat_column (lane_slots (lanes_of array))

-- the base, the indices, the values, and the chunk offsets, where there are any
abbrev pub exception_slots : Excepted Column → List (Option Column)
exception_slots array =
    Some (base_of array) ∷ Some (flat_column (index_of array).indices) ∷ Some (values_of array) ∷ option_map flat_column (index_of array).chunk_offsets ∷ []

-- the two selectors, and then the values
abbrev pub interleave_slots : Interleave Column → List Column
interleave_slots array = map flat_column (selector_slots (selectors_of array)) ++ interleaved_of array

abbrev pub layer_slots : Column-F Column → List (Option Column)
layer_slots (Column-F.Flat c) = []
layer_slots (Column-F.Chunked chunked) = map Some (chunk_slots chunked)
layer_slots (Column-F.Patched patched) = map Some (patched_slots patched)
layer_slots (Column-F.Excepted excepted) = exception_slots excepted
layer_slots (Column-F.Interleave interleave) = map Some (interleave_slots interleave)

abbrev pub slots_of : Column → List (Option Column)
slots_of column = layer_slots (out-Column column)
