-- Lane layouts, and the exceptions that they stand for.
use Rattle.std.specs.Prelude.{◌≡◌, ℕ, zero, suc, ◌+◌, ◌-◌, ◌*◌, ◌/◌, ◌%◌, ◌^◌, ◌<◌, ◌≤◌, min, List, [], ◌∷◌, ◌++◌, length, get_or, Option, Some, None, Bool, true, false, cond, ◌&&◌, nat_le, nat_lt, ◌==◌, slice_index, IsTrue}
use Rattle.std.specs.Option.{option_or}
use Rattle.std.specs.List.{slice_range}
use Rattle.vx_rows.specs.declared.kinds.PType.TheVariants.{U16, U32}
use Rattle.vx_rows.specs.declared.kinds.Nullability.TheVariants.{NonNullable}
use Rattle.vx_rows.specs.declared.dtype.DType.{DType, out-DType}
use Rattle.vx_rows.specs.declared.dtype.DType.TheOpen.{DType-F}
use Rattle.vx_rows.specs.declared.value.Value.{Value}
use Rattle.vx_base.specs.Column.{Flat, flat}
use Rattle.vx_base.specs.Numbers.{numbers_of, is_integer}
use Rattle.vx_base.specs.Checks.{all_valid}
use Rattle.vx_lanes.specs.declared.layout.Layout.{Layout}

abbrev pub layout : ℕ → ℕ → ℕ → Flat → Flat → Flat → Layout
layout len n_lanes offset lane_offsets patch_indices patch_values =
    record { len = len; n_lanes = n_lanes; offset = offset; lane_offsets = lane_offsets; patch_indices = patch_indices; patch_values = patch_values }

abbrev pub layer_is_u32 : {A B : Type 0} → DType-F A B → Bool
layer_is_u32 (DType-F.Primitive U32 NonNullable) = true
layer_is_u32 t = false

abbrev pub layer_is_u16 : {A B : Type 0} → DType-F A B → Bool
layer_is_u16 (DType-F.Primitive U16 NonNullable) = true
layer_is_u16 t = false

-- the types of lane offsets and of indices: null is no row
abbrev pub is_u32 : DType → Bool
is_u32 t = layer_is_u32 (out-DType t)

abbrev pub is_u16 : DType → Bool
is_u16 t = layer_is_u16 (out-DType t)

-- how many chunks hold so many places
abbrev pub chunks_of : ℕ → ℕ
chunks_of places = (places + 1023) / 1024

-- the chunk of a row, and its place there
abbrev pub chunk_of : Layout → ℕ → ℕ
chunk_of l row = (l.offset + row) / 1024

abbrev pub place_of : Layout → ℕ → ℕ
place_of l row = (l.offset + row) % 1024

-- how many entries there are: one for each lane of each chunk
abbrev pub entries : Layout → ℕ
entries l = length l.lane_offsets.rows - 1

-- how many exceptions there are
abbrev pub exceptions : Layout → ℕ
exceptions l = length l.patch_indices.rows

-- exceptions from lane_start g to below lane_start (g + 1) belong to entry g
abbrev pub lane_start : Layout → ℕ → ℕ
lane_start l g = slice_index (numbers_of l.lane_offsets.rows) g

-- where in its chunk an exception stands, and what it puts there
abbrev pub index_of : Layout → ℕ → ℕ
index_of l k = slice_index (numbers_of l.patch_indices.rows) k

abbrev pub value_of : Layout → ℕ → Option Value
value_of l k = get_or l.patch_values.rows k None

-- what a layout keeps: entries lie chunk by chunk, and lane by lane within a chunk
pub record IsLayout (l : Layout) : Type 0 where
  pub fits : l.offset + l.len < 2 ^ 64
  pub lanes : (c : ℕ) × (c < 8) × (l.n_lanes ≡ 2 ^ c)
  pub offset_within : l.offset < 1024
  pub offsets_type : IsTrue (is_u32 l.lane_offsets.dtype)
  pub offsets : length l.lane_offsets.rows ≡ l.n_lanes * chunks_of (l.offset + l.len) + 1
  pub rising : (g : ℕ) → g < entries l → lane_start l g ≤ lane_start l (g + 1)
  pub inside : lane_start l (entries l) ≤ exceptions l
  pub index_type : IsTrue (is_u16 l.patch_indices.dtype)
  pub paired : exceptions l ≡ length l.patch_values.rows
  pub few : exceptions l < 2 ^ 32
  pub in_chunk : (k : ℕ) → lane_start l 0 ≤ k → k < lane_start l (entries l) → index_of l k < 1024
  pub in_lane : (g k : ℕ) → g < entries l → lane_start l g ≤ k → k < lane_start l (g + 1) → index_of l k % l.n_lanes ≡ g % l.n_lanes
  pub in_order : (g k : ℕ) → g < entries l → lane_start l g < k → k < lane_start l (g + 1) → index_of l (k - 1) < index_of l k
  pub integers : IsTrue (is_integer l.patch_values.dtype)
  pub valid : IsTrue (all_valid l.patch_values.rows)

-- exception k is one for the row: it belongs to an entry of the row's chunk, and its index is the row's place
pub record Excepts (l : Layout) (row k : ℕ) : Type 0 where
  pub from : lane_start l (chunk_of l row * l.n_lanes) ≤ k
  pub below : k < lane_start l ((chunk_of l row + 1) * l.n_lanes)
  pub place : index_of l k ≡ place_of l row

-- the same as a test
unfoldable pub excepts : Layout → ℕ → ℕ → Bool
excepts l row k =
    nat_le (lane_start l (chunk_of l row * l.n_lanes)) k && (nat_lt k (lane_start l ((chunk_of l row + 1) * l.n_lanes)) && (index_of l k == place_of l row))

-- the first number below a bound that passes a test
unfoldable pub first_below : (ℕ → Bool) → ℕ → Option ℕ
first_below test zero = None
first_below test (suc n) = option_or (first_below test n) (cond (test n) (Some n) None)

-- the row's exception among the first n, and among all
abbrev pub exception_below : Layout → ℕ → ℕ → Option ℕ
exception_below l n row = first_below (excepts l row) n

abbrev pub exception_of : Layout → ℕ → Option ℕ
exception_of l row = exception_below l (exceptions l) row

-- exception k of entry g as a pair: its place, counted over all chunks, and its value
abbrev pub pair_of : Layout → ℕ → ℕ → ℕ × Option Value
pair_of l g k = (g / l.n_lanes * 1024 + index_of l k, value_of l k)

-- the pairs of n exceptions of entry g from exception k on, and of all exceptions of n entries from g on
unfoldable pub pairs_from : Layout → ℕ → ℕ → ℕ → List (ℕ × Option Value)
pairs_from l g k zero = []
pairs_from l g k (suc n) = pair_of l g k ∷ pairs_from l g (k + 1) n

unfoldable pub pairs_in : Layout → ℕ → ℕ → List (ℕ × Option Value)
pairs_in l g zero = []
pairs_in l g (suc n) = pairs_from l g (lane_start l g) (lane_start l (g + 1) - lane_start l g) ++ pairs_in l (g + 1) n

-- what a layout means: the pairs of all entries, as the lane offsets and indices give them
abbrev pub pairs_of : Layout → List (ℕ × Option Value)
pairs_of l = pairs_in l 0 (entries l)

-- the value of the first pair at a place
unfoldable pub paired_with : List (ℕ × Option Value) → ℕ → Option (Option Value)
paired_with [] place = None
paired_with (pair ∷ pairs) place = cond (pair.0 == place) (Some pair.1) (paired_with pairs place)

-- a value, or the exception that takes its place
abbrev pub value_under : Layout → Option ℕ → Value → Option Value
value_under l None v = Some v
value_under l (Some k) v = value_of l k

-- a row, or where it is a value what takes its place: null stays null
abbrev pub replaced : Option Value → Option (Option Value) → Option Value
replaced None new = None
replaced (Some v) None = Some v
replaced (Some v) (Some new) = new

-- a row under the first n exceptions: null stays null
unfoldable pub row_under : Layout → ℕ → ℕ → Option Value → Option Value
row_under l n row None = None
row_under l n row (Some v) = value_under l (exception_below l n row) v

unfoldable pub rows_under : Layout → ℕ → ℕ → List (Option Value) → List (Option Value)
rows_under l n row [] = []
rows_under l n row (r ∷ rs) = row_under l n row r ∷ rows_under l n (row + 1) rs

-- rows with the first n exceptions laid over them, and with all
abbrev pub overlaid_below : Layout → ℕ → List (Option Value) → List (Option Value)
overlaid_below l n rows = rows_under l n 0 rows

abbrev pub overlaid : Layout → List (Option Value) → List (Option Value)
overlaid l rows = overlaid_below l (exceptions l) rows

-- how many of the first rows have an exception among the first n
abbrev pub one_if_some : Option ℕ → ℕ
one_if_some None = 0
one_if_some (Some k) = 1

unfoldable pub covered : Layout → ℕ → ℕ → ℕ
covered l n zero = 0
covered l n (suc row) = covered l n row + one_if_some (exception_below l n row)

-- a row after exception k was laid at a place counted over all chunks
unfoldable pub laid : Layout → ℕ → ℕ → ℕ → Option Value → Option Value
laid l k place row None = None
laid l k place row (Some v) = cond (l.offset + row == place) (value_of l k) (Some v)

-- so many rows from a place of a chunk on, with some of the lane offsets, over the same exceptions
unfoldable pub layout_part : Layout → ℕ → ℕ → ℕ → ℕ → Layout
layout_part l len offset from to = record l { len = len; offset = offset; lane_offsets = flat l.lane_offsets.dtype (slice_range l.lane_offsets.rows from to) }

-- rows start to below end of a layout: the lanes of their chunks
abbrev pub layout_slice : Layout → ℕ → ℕ → Layout
layout_slice l start end =
    layout_part l (end - start) (place_of l start) (chunk_of l start * l.n_lanes)
    (chunk_of l start * l.n_lanes + (l.n_lanes * chunks_of (place_of l start + (end - start)) + 1))

-- the first row of a chunk, or the length where the chunk starts at the end
abbrev pub chunk_row : Layout → ℕ → ℕ
chunk_row l chunk = min (1024 * chunk - l.offset) l.len

-- chunks start to below end of a layout; of no chunk the layout of no row
abbrev pub layout_chunks : Layout → ℕ → ℕ → Layout
layout_chunks l start end = cond (nat_lt start end) (layout_slice l (chunk_row l start) (chunk_row l end)) (layout_part l 0 0 0 1)
