-- The JSON of refusals: the variant's name under `error`, and its fields under their names.
use Rattle.std.specs.Prelude.{ℕ, ℤ, List, map, codes}
use Rattle.serde_json.specs.Data.{Data, number, unsigned, string, array, object, member, no_members}
use Rattle.serde_json.specs.Find.{of_integer}
use Rattle.serde_json.specs.View.{items_of}
use Rattle.vx_rows.specs.declared.error.Rule.{Rule}
use Rattle.vx_rows.specs.declared.error.Rule.TheVariants as rule
use Rattle.vx_rows.specs.declared.error.WireFault.{WireFault}
use Rattle.vx_rows.specs.declared.error.WireFault.TheVariants as wire
use Rattle.vx_rows.specs.declared.error.ColumnError.{ColumnError}
use Rattle.vx_rows.specs.declared.error.ColumnError.TheVariants as refused

-- the name of a rule
abbrev pub rule_name : Rule → List ℕ
rule_name rule.RowType = codes "RowType"
rule_name rule.TooLong = codes "TooLong"
rule_name rule.ChunkType = codes "ChunkType"
rule_name rule.LaneCount = codes "LaneCount"
rule_name rule.LaneOffset = codes "LaneOffset"
rule_name rule.LaneOffsetsType = codes "LaneOffsetsType"
rule_name rule.LaneOffsetsLength = codes "LaneOffsetsLength"
rule_name rule.LaneOffsetsFall = codes "LaneOffsetsFall"
rule_name rule.LaneOffsetsEnd = codes "LaneOffsetsEnd"
rule_name rule.LaneIndexType = codes "LaneIndexType"
rule_name rule.LaneLengths = codes "LaneLengths"
rule_name rule.LaneTooMany = codes "LaneTooMany"
rule_name rule.LaneIndexRange = codes "LaneIndexRange"
rule_name rule.LaneIndexLane = codes "LaneIndexLane"
rule_name rule.LaneIndexOrder = codes "LaneIndexOrder"
rule_name rule.LaneValueType = codes "LaneValueType"
rule_name rule.LaneValueNull = codes "LaneValueNull"
rule_name rule.NoExceptions = codes "NoExceptions"
rule_name rule.IndexType = codes "IndexType"
rule_name rule.IndexOrder = codes "IndexOrder"
rule_name rule.IndexBelowOffset = codes "IndexBelowOffset"
rule_name rule.IndexPastEnd = codes "IndexPastEnd"
rule_name rule.ValueCount = codes "ValueCount"
rule_name rule.ValueType = codes "ValueType"
rule_name rule.ValueNullable = codes "ValueNullable"
rule_name rule.ChunkOffsetType = codes "ChunkOffsetType"
rule_name rule.ChunkOffsetCount = codes "ChunkOffsetCount"
rule_name rule.ChunkOffsetWrong = codes "ChunkOffsetWrong"
rule_name rule.TooFewValues = codes "TooFewValues"
rule_name rule.ValueTypes = codes "ValueTypes"
rule_name rule.SelectorType = codes "SelectorType"
rule_name rule.SelectorLengths = codes "SelectorLengths"
rule_name rule.SelectorArray = codes "SelectorArray"
rule_name rule.SelectorRow = codes "SelectorRow"
rule_name rule.BoundaryType = codes "BoundaryType"
rule_name rule.BoundaryCount = codes "BoundaryCount"
rule_name rule.BoundaryStart = codes "BoundaryStart"
rule_name rule.BoundaryFall = codes "BoundaryFall"
rule_name rule.BoundaryEnd = codes "BoundaryEnd"
rule_name rule.BoundaryLength = codes "BoundaryLength"
rule_name rule.InnerLength = codes "InnerLength"

-- a number that isn't negative
abbrev pub whole_json : ℕ → Data
whole_json n = number (unsigned n)

-- a place in a tree of parts
abbrev pub path_json : List ℕ → Data
path_json numbers = array (items_of (map whole_json numbers))

-- a refusal with no field
abbrev pub bare : List ℕ → Data
bare name = object (member (codes "error") (string name) no_members)

-- a refusal with one number, under this key
abbrev pub counted : List ℕ → List ℕ → ℕ → Data
counted name key n =
    object (member (codes "error") (string name) (member key (whole_json n) no_members))

-- a range that ends before it starts
abbrev pub bad_range : ℕ → ℕ → Data
bad_range start end =
    object (member (codes "end") (whole_json end) (member (codes "error") (string (codes "BadRange"))
    (member (codes "start") (whole_json start) no_members)))

-- a row number that isn't there, or an end past it
abbrev pub out_of_bounds : ℕ → ℕ → Data
out_of_bounds index len =
    object (member (codes "error") (string (codes "OutOfBounds")) (member (codes "index") (whole_json index)
    (member (codes "len") (whole_json len) no_members)))

-- a list of another length than it has to have
abbrev pub length_mismatch : ℕ → ℕ → Data
length_mismatch expected found =
    object (member (codes "error") (string (codes "LengthMismatch"))
    (member (codes "expected") (whole_json expected) (member (codes "found") (whole_json found) no_members)))

-- a part that breaks a rule
abbrev pub malformed : List ℕ → Rule → Data
malformed at broken =
    object (member (codes "at") (path_json at) (member (codes "error") (string (codes "Malformed"))
    (member (codes "rule") (string (rule_name broken)) no_members)))

-- a part over a type that it can't hold
abbrev pub unsupported : List ℕ → Data
unsupported at =
    object (member (codes "at") (path_json at)
    (member (codes "error") (string (codes "Unsupported")) no_members))

-- faults of metadata, without a field and with one
abbrev pub plain_fault : List ℕ → Data
plain_fault name =
    object (member (codes "error") (string (codes "BadMetadata"))
    (member (codes "fault") (string name) no_members))

abbrev pub tagged_fault : List ℕ → ℕ → Data
tagged_fault name tag =
    object (member (codes "error") (string (codes "BadMetadata")) (member (codes "fault") (string name)
    (member (codes "tag") (whole_json tag) no_members)))

abbrev pub numbered_fault : List ℕ → ℤ → Data
numbered_fault name code =
    object (member (codes "error") (string (codes "BadMetadata")) (member (codes "fault") (string name)
    (member (codes "number") (number (of_integer code)) no_members)))

abbrev pub fault_json : WireFault → Data
fault_json wire.Truncated = plain_fault (codes "Truncated")
fault_json wire.BadVarint = plain_fault (codes "BadVarint")
fault_json wire.BadKey = plain_fault (codes "BadKey")
fault_json (wire.WrongWireType tag) = tagged_fault (codes "WrongWireType") tag
fault_json (wire.Group tag) = tagged_fault (codes "Group") tag
fault_json (wire.UnknownType code) = numbered_fault (codes "UnknownType") code
fault_json (wire.FloatType code) = numbered_fault (codes "FloatType") code
fault_json (wire.NotUnsigned code) = numbered_fault (codes "NotUnsigned") code
fault_json wire.TooLarge = plain_fault (codes "TooLarge")
fault_json wire.NotEmpty = plain_fault (codes "NotEmpty")

-- a refusal of a call
abbrev pub refusal_json : ColumnError → Data
refusal_json refused.OutOfMemory = bare (codes "OutOfMemory")
refusal_json (refused.Malformed at broken) = malformed at broken
refusal_json (refused.Unsupported at) = unsupported at
refusal_json (refused.UnsupportedStep step) = counted (codes "UnsupportedStep") (codes "step") step
refusal_json (refused.BadRange start end) = bad_range start end
refusal_json (refused.OutOfBounds index len) = out_of_bounds index len
refusal_json (refused.LengthMismatch expected found) = length_mismatch expected found
refusal_json refused.MismatchedTypes = bare (codes "MismatchedTypes")
refusal_json (refused.BadCast row) = counted (codes "BadCast") (codes "row") row
refusal_json refused.Unsorted = bare (codes "Unsorted")
refusal_json (refused.UnknownColumn n) = counted (codes "UnknownColumn") (codes "number") n
refusal_json refused.NoChunkOffsets = bare (codes "NoChunkOffsets")
refusal_json (refused.SlotOutOfRange slot) = counted (codes "SlotOutOfRange") (codes "slot") slot
refusal_json (refused.MissingSlot slot) = counted (codes "MissingSlot") (codes "slot") slot
refusal_json refused.NotSerializable = bare (codes "NotSerializable")
refusal_json (refused.BadMetadata fault) = fault_json fault
refusal_json refused.NoChunks = bare (codes "NoChunks")
