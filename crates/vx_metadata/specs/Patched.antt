-- The serialized form of an array with exceptions by lane: a message of three numbers stands beside its type, its length,
-- its inner column and the columns of its layout.
use Rattle.std.specs.Prelude.{◌≡◌, ◌⊎◌, ℕ, Bool, not, ◌||◌, ◌==◌, List, [], ◌∷◌, length, Option, Some, None, Result, Ok, Err}
use Rattle.vx_rows.specs.declared.dtype.DType.{DType}
use Rattle.vx_rows.specs.declared.error.Rule.{Rule}
use Rattle.vx_rows.specs.declared.error.Rule.TheVariants.{InnerLength, LaneLengths}
use Rattle.vx_rows.specs.declared.error.WireFault.{WireFault}
use Rattle.vx_rows.specs.declared.error.ColumnError.{ColumnError}
use Rattle.vx_rows.specs.declared.error.ColumnError.TheVariants.{OutOfMemory, Malformed, BadMetadata, MismatchedTypes}
use Rattle.vx_base.specs.Column.{Flat}
use Rattle.vx_base.specs.Rules.{first_broken}
use Rattle.vx_wire.specs.Faults.{FirstFault}
use Rattle.vx_wire.specs.Messages.{SaysLanes, lanes_bytes}
use Rattle.vx_wire.specs.declared.patched.PatchedMetadata.{PatchedMetadata}
use Rattle.vx_lanes.specs.declared.layout.Layout.{Layout}
use Rattle.vx_lanes.specs.Layouts.{layout, exceptions}
use Rattle.vx_job.specs.Faults.{IsLanesFault, MadeCause}
use Rattle.vx_column.specs.declared.patched.Patched.{Patched}
use Rattle.vx_column.specs.declared.column.Column.{Column}
use Rattle.vx_column.specs.declared.column.Column.TheVariants.{Patched as patched_column}
use Rattle.vx_column.specs.Columns.{type_of, rows_of, len_of, inner_of, lanes_of}

-- the message of a layout
abbrev pub message_of : Layout → PatchedMetadata
message_of lanes = record { n_patches = exceptions lanes; n_lanes = lanes.n_lanes; offset = lanes.offset }

-- the metadata of an array
abbrev pub patched_bytes : Patched Column → List ℕ
patched_bytes array = lanes_bytes (message_of (lanes_of array))

-- each rule as a test that is true where the rule is broken

-- the inner column's length isn't the declared one
unfoldable pub inner_length : ℕ → ℕ → Bool
inner_length len found = not (found == len)

-- there aren't as many indices and values as the message says
unfoldable pub lane_lengths : ℕ → Flat → Flat → Bool
lane_lengths n_patches indices values = not (length indices.rows == n_patches) || not (length values.rows == n_patches)

abbrev pub child_rules : ℕ → ℕ → PatchedMetadata → Flat → Flat → List (Rule × Bool)
child_rules len found m indices values = (InnerLength, inner_length len found) ∷ (LaneLengths, lane_lengths m.n_patches indices values) ∷ []

-- the first rule that children break under a message, where `len` rows are declared and the inner column has `found`
abbrev pub child_fault : ℕ → ℕ → PatchedMetadata → Flat → Flat → Option Rule
child_fault len found m indices values = first_broken (child_rules len found m indices values)

-- what is wrong with the children under a message: the inner column's type, or else the first rule that is broken
abbrev pub IsChildFault : DType → DType → Option Rule → ColumnError → Type 0
IsChildFault t inner broken e =
    ((e ≡ MismatchedTypes) × (inner ≡ t → ⊥)) ⊎ ((inner ≡ t) × ((rule : Rule) × (broken ≡ Some rule) × (e ≡ Malformed [] rule)))

-- the bytes say a message that the children go with
pub record IsMessageFor (t : DType) (len : ℕ) (metadata : List ℕ) (inner : Column) (indices values : Flat) (m : PatchedMetadata) : Type 0 where
  pub says : SaysLanes metadata m
  pub typed : type_of inner ≡ t
  pub counted : child_fault len (len_of inner) m indices values ≡ None

-- what is wrong with a serialized array before its layout, the first in order: bytes come before the children
abbrev pub IsMessageFault : DType → ℕ → List ℕ → Column → Flat → Flat → ColumnError → Type 0
IsMessageFault t len metadata inner indices values e =
    ((fault : WireFault) × FirstFault 3 metadata fault × (e ≡ BadMetadata fault))
    ⊎ ((m : PatchedMetadata) × SaysLanes metadata m × IsChildFault t (type_of inner) (child_fault len (len_of inner) m indices values) e)

-- the layout of a message and these columns, over an inner column
abbrev pub said_layout : PatchedMetadata → Column → Flat → Flat → Flat → Layout
said_layout m inner lane_offsets indices values = layout (len_of inner) m.n_lanes m.offset lane_offsets indices values

-- why no array is made: a fault before the layout, or else what the maker refuses of the message's layout
abbrev pub PatchedCause : DType → ℕ → List ℕ → Column → Flat → Flat → Flat → ColumnError → Type 0
PatchedCause t len metadata inner lane_offsets indices values e =
    IsMessageFault t len metadata inner indices values e
    ⊎ ((m : PatchedMetadata) × IsMessageFor t len metadata inner indices values m
    × MadeCause (IsLanesFault (type_of inner) (len_of inner) m.n_lanes m.offset lane_offsets indices values) e)

-- the array is what the bytes and the children are the serialized form of
pub record IsPatchedForm (t : DType) (len : ℕ) (metadata : List ℕ) (inner : Column) (lane_offsets indices values : Flat) (array : Patched Column) : Type 0 where
  pub message : PatchedMetadata
  pub goes_with : IsMessageFor t len metadata inner indices values message
  pub clean : IsLanesFault (type_of inner) (len_of inner) message.n_lanes message.offset lane_offsets indices values None
  pub inner_is : inner_of array ≡ inner
  pub lanes_are : lanes_of array ≡ said_layout message inner lane_offsets indices values

-- what an array is in its serialized form, with its own inner column and slots
pub record IsPatchedFormOf (array : Patched Column) (t : DType) (len : ℕ) (metadata : List ℕ) (inner : Column) (lane_offsets indices values : Flat) : Type 0 where
  pub dtype_is : t ≡ type_of (patched_column array)
  pub len_is : len ≡ len_of (patched_column array)
  pub metadata_is : metadata ≡ patched_bytes array
  pub inner_is : inner ≡ inner_of array
  pub offsets_are : lane_offsets ≡ (lanes_of array).lane_offsets
  pub indices_are : indices ≡ (lanes_of array).patch_indices
  pub values_are : values ≡ (lanes_of array).patch_values

-- an array of the same type and rows, or want of memory
abbrev pub IsPatchedBack : Patched Column → Result (Patched Column) ColumnError → Type 0
IsPatchedBack array (Ok other) = (type_of (patched_column other) ≡ type_of (patched_column array)) × (rows_of (patched_column other) ≡ rows_of (patched_column array))
IsPatchedBack array (Err e) = e ≡ OutOfMemory
