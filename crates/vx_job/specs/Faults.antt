-- What is wrong with the parts of an assembled column, the first in order.
use Rattle.std.specs.Prelude.{◌≡◌, ◌⊎◌, ◌↔◌, ℕ, List, [], ◌∷◌, length, Option, Some, None, Bool, true, false, not, ◌&&◌, nat_lt, nat_eq, IsTrue}
use Rattle.std.specs.Option.{option_or}
use Rattle.vx_rows.specs.Types.{AlikeTypes}
use Rattle.vx_rows.specs.declared.dtype.DType.{DType}
use Rattle.vx_rows.specs.declared.error.Rule.{Rule}
use Rattle.vx_rows.specs.declared.error.Rule.TheVariants.{ValueCount, ValueType, ValueNullable, TooFewValues, ValueTypes}
use Rattle.vx_rows.specs.declared.error.ColumnError.{ColumnError}
use Rattle.vx_rows.specs.declared.error.ColumnError.TheVariants as error
use Rattle.vx_base.specs.Column.{Flat}
use Rattle.vx_base.specs.Numbers.{is_integer}
use Rattle.vx_base.specs.Rules.{first_broken}
use Rattle.vx_patches.specs.Making.{places_fault, chunk_fault}
use Rattle.vx_lanes.specs.Rules.{IsFirstBroken}
use Rattle.vx_lanes.specs.Layouts.{layout}
use Rattle.vx_interleave.specs.Rules.{selector_fault}
use Rattle.vx_job.specs.Kinds.{is_bool_or_integer, is_nullable, AreAlike}

-- a type that isn't supported, or a rule that is broken
pub data Fault : Type 0 where
  Unsupported : Fault
  Broken : Rule → Fault

-- the refusal that names the fault of the part at a path
abbrev pub error_at : List ℕ → Fault → ColumnError
error_at path Unsupported = error.Unsupported path
error_at path (Broken rule) = error.Malformed path rule

-- the types come first, and then the rules, of which the first one that is broken is told
abbrev pub IsFirstFault : Bool → (Option Rule → Type 0) → Option Fault → Type 0
IsFirstFault false Broke fault = fault ≡ Some Unsupported
IsFirstFault true Broke None = Broke None
IsFirstFault true Broke (Some Unsupported) = ⊥
IsFirstFault true Broke (Some (Broken rule)) = Broke (Some rule)

-- lanes over rows of a type and number
abbrev pub IsLanesFault : DType → ℕ → ℕ → ℕ → Flat → Flat → Flat → Option Fault → Type 0
IsLanesFault inner len n_lanes offset lane_offsets indices values fault =
    IsFirstFault (is_integer inner) (IsFirstBroken inner (layout len n_lanes offset lane_offsets indices values)) fault

-- what the values of exceptions may break, by whether their type is that of the rows up to nullability
abbrev pub value_rules : Flat → Bool → DType → DType → ℕ → List (Rule × Bool)
value_rules indices alike base values count =
    (ValueCount, not (nat_eq count (length indices.rows))) ∷ (ValueType, not alike)
    ∷ (ValueNullable, is_nullable values && not (is_nullable base)) ∷ []

-- the first rule that exceptions over rows of a type and number break, with values of a type and number: one of the
-- indices, of the values, or of the chunk offsets
abbrev pub exceptions_fault : Bool → DType → ℕ → ℕ → Flat → DType → ℕ → Option Flat → Option Rule
exceptions_fault alike base len offset indices values count offsets =
    option_or (places_fault len offset indices) (option_or (first_broken (value_rules indices alike base values count)) (chunk_fault len offset indices offsets))

abbrev pub IsExceptionsFault : DType → ℕ → ℕ → Flat → DType → ℕ → Option Flat → Option Fault → Type 0
IsExceptionsFault base len offset indices values count offsets fault =
    IsFirstFault (is_bool_or_integer base) (λ rule. (alike : Bool) × (IsTrue alike ↔ AlikeTypes values base) × (exceptions_fault alike base len offset indices values count offsets ≡ rule)) fault

abbrev pub all_bool_or_integer : List DType → Bool
all_bool_or_integer [] = true
all_bool_or_integer (t ∷ ts) = is_bool_or_integer t && all_bool_or_integer ts

-- the first rule that values of these lengths break, or else their selectors
abbrev pub interleaved_fault : Bool → List ℕ → Flat → Flat → Option Rule
interleaved_fault alike lens array_indices row_indices =
    option_or (first_broken ((TooFewValues, nat_lt (length lens) 2) ∷ (ValueTypes, not alike) ∷ [])) (selector_fault array_indices row_indices lens)

abbrev pub IsInterleaveFault : List DType → List ℕ → Flat → Flat → Option Fault → Type 0
IsInterleaveFault types lens array_indices row_indices fault =
    IsFirstFault (all_bool_or_integer types) (λ rule. (alike : Bool) × (IsTrue alike ↔ AreAlike types) × (interleaved_fault alike lens array_indices row_indices ≡ rule)) fault

-- running out of memory, or the first fault of parts that are no part of others
abbrev pub MadeCause : (Option Fault → Type 0) → ColumnError → Type 0
MadeCause First e = (e ≡ error.OutOfMemory) ⊎ ((fault : Fault) × (e ≡ error_at [] fault) × First (Some fault))
