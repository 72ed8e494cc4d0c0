-- What is left of exceptions in a range of rows.
use Rattle.std.specs.Prelude.{ℕ, ◌+◌, ◌-◌, ◌/◌, ◌%◌, ◌≡◌, Bool, ◌&&◌, nat_le, nat_lt, List, [], map, slice_index, Option, Some, None}
use Rattle.std.specs.List.{filter, slice_range}
use Rattle.std.specs.declared.ops.Range.{Range}
use Rattle.vx_base.specs.Column.{Flat, flat}
use Rattle.vx_base.specs.Numbers.{numbers_of}
use Rattle.vx_base.specs.Checks.{count_below}
use Rattle.vx_patches.specs.Places.{Index, IsIndex, rows_of, chunks_over}
use Rattle.vx_patches.specs.Search.{search_cost}

-- whether a row lies from start to below end
abbrev pub lies_inside : ℕ → ℕ → ℕ → Bool
lies_inside start end row = nat_le start row && nat_lt row end

-- the rows from start to below end, less start
abbrev pub rows_inside : ℕ → ℕ → List ℕ → List ℕ
rows_inside start end rows = map (λ n. n - start) (filter (lies_inside start end) rows)

-- the place of a row: how many rows are below it
abbrev pub place_of : ℕ → List ℕ → ℕ
place_of row rows = count_below row rows

-- the chunk that holds a row of rows from an offset on, and the first chunk behind the rows before it
abbrev pub chunk_at : ℕ → ℕ → ℕ
chunk_at offset row = (offset % 1024 + row) / 1024

abbrev pub chunk_from : ℕ → ℕ → ℕ
chunk_from offset row = chunks_over (offset % 1024 + row)

abbrev pub window : Flat → ℕ → ℕ → Flat
window column start end = flat column.dtype (slice_range column.rows start end)

-- the chunk offsets of a slice: those of the chunks that it touches
abbrev pub offsets_after : Option Flat → ℕ → ℕ → ℕ → Option Flat
offsets_after (Some offsets) offset start end = Some (window offsets (chunk_at offset start) (chunk_from offset end))
offsets_after None offset start end = None

-- how many exceptions of the first chunk are cut away, where `first` of them go in all and `chunk` becomes the first
abbrev pub cut_away : List ℕ → ℕ → ℕ → ℕ → ℕ
cut_away offsets w first chunk = w + first - (slice_index offsets chunk - slice_index offsets 0)

abbrev pub within_after : Option Flat → ℕ → ℕ → ℕ → ℕ → ℕ
within_after (Some offsets) w offset start first = cut_away (numbers_of offsets.rows) w first (chunk_at offset start)
within_after None w offset start first = 0

-- the exceptions from place `first` to below place `last`, for the rows from start to below end
abbrev pub part_of : Index → ℕ → ℕ → ℕ → ℕ → Index
part_of index start end first last = record {
  len = end - start;
  offset = index.offset + start;
  indices = window index.indices first last;
  chunk_offsets = offsets_after index.chunk_offsets index.offset start end;
  within = within_after index.chunk_offsets index.within index.offset start first;
}

-- a slice that has exceptions left
pub record IsSliceOf (index part : Index) (start end first last : ℕ) : Type 0 where
  pub from : first ≡ place_of start (rows_of index)
  pub to : last ≡ place_of end (rows_of index)
  pub is : part ≡ part_of index start end first last
  pub rows : rows_of part ≡ rows_inside start end (rows_of index)
  pub sound : IsIndex part

-- what a slice answers: no row has an exception, or the exceptions that are left and their places
abbrev pub IsKept : Index → ℕ → ℕ → Option (Index × Range ℕ) → Type 0
IsKept index start end None = rows_inside start end (rows_of index) ≡ []
IsKept index start end (Some kept) = IsSliceOf index kept.0 start end kept.1.start kept.1.end

-- a full range keeps all as it is
abbrev pub IsWhole : Index → Option (Index × Range ℕ) → Type 0
IsWhole index None = ⊥
IsWhole index (Some kept) = kept.0 ≡ index

-- two entries are read to cut the front of chunk offsets
abbrev pub front_reads : Option Flat → ℕ
front_reads (Some offsets) = 2
front_reads None = 0

-- what a cut end raises the steps by, at most: 27 with chunk offsets, and else a search
abbrev pub cut_cost : Index → ℕ
cut_cost index = search_cost index + front_reads index.chunk_offsets
