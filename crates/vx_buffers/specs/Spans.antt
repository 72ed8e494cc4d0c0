-- Byte strings in one run of bytes.
use Rattle.std.specs.Prelude.{ℕ, ◌≤◌, List, length, map, Option, Some, None, All, IsUtf8}
use Rattle.std.specs.Option.{option_map}
use Rattle.std.specs.List.{slice_range}
use Rattle.vx_buffers.specs.declared.binaries.Span.{Span}

abbrev pub piece : List ℕ → Span → List ℕ
piece bytes span = slice_range bytes span.start span.end

-- the byte strings that the spans cut out
abbrev pub pieces : List ℕ → List (Option Span) → List (Option (List ℕ))
pieces bytes spans = map (option_map (piece bytes)) spans

abbrev pub IsInside : ℕ → Option Span → Type 0
IsInside len None = Unit {0}
IsInside len (Some span) = (span.start ≤ span.end) × (span.end ≤ len)

-- each span lies in the run
abbrev pub IsSound : List ℕ → List (Option Span) → Type 0
IsSound bytes spans = All (IsInside (length bytes)) spans

abbrev pub IsText : Option (List ℕ) → Type 0
IsText None = Unit {0}
IsText (Some bytes) = IsUtf8 bytes

-- each byte string is a text
abbrev pub AreTexts : List (Option (List ℕ)) → Type 0
AreTexts pieces = All IsText pieces
