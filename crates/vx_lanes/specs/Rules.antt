-- The rules of lane layouts, in their order.
use Rattle.std.specs.Prelude.{◌≡◌, ◌↔◌, ℕ, zero, suc, ◌+◌, ◌-◌, ◌*◌, ◌%◌, ◌^◌, List, [], ◌∷◌, ◌++◌, length, Option, Some, None, Bool, false, cond, not, ◌&&◌, ◌||◌, nat_le, nat_lt, ◌==◌, IsTrue}
use Rattle.vx_rows.specs.Types.{AlikeTypes}
use Rattle.vx_rows.specs.declared.dtype.DType.{DType}
use Rattle.vx_rows.specs.declared.error.Rule.{Rule}
use Rattle.vx_rows.specs.declared.error.Rule.TheVariants.{TooLong, LaneCount, LaneOffset, LaneOffsetsType, LaneOffsetsLength, LaneOffsetsFall, LaneOffsetsEnd, LaneIndexType, LaneLengths, LaneTooMany, LaneIndexRange, LaneIndexLane, LaneIndexOrder, LaneValueType, LaneValueNull}
use Rattle.vx_rows.specs.declared.error.ColumnError.{ColumnError}
use Rattle.vx_rows.specs.declared.error.ColumnError.TheVariants.{Malformed}
use Rattle.vx_base.specs.Numbers.{numbers_of}
use Rattle.vx_base.specs.Checks.{all_valid, non_decreasing}
use Rattle.vx_base.specs.Rules.{first_broken}
use Rattle.vx_lanes.specs.declared.layout.Layout.{Layout}
use Rattle.vx_lanes.specs.Layouts.{is_u16, is_u32, chunks_of, entries, exceptions, lane_start, index_of}

-- some number below n passes
unfoldable pub any_below : (ℕ → Bool) → ℕ → Bool
any_below test zero = false
any_below test (suc n) = any_below test n || test n

-- some number from `from` to below `to` passes
abbrev pub any_between : (ℕ → Bool) → ℕ → ℕ → Bool
any_between test from to = any_below (λ j. test (from + j)) (to - from)

-- some exception of some of the first n entries, with the entry's number, passes
abbrev pub any_entry : Layout → (ℕ → ℕ → Bool) → ℕ → Bool
any_entry l test n = any_below (λ g. any_between (test g) (lane_start l g) (lane_start l (g + 1))) n

-- what an index may break
abbrev pub over_range : Layout → ℕ → Bool
over_range l k = nat_le 1024 (index_of l k)

abbrev pub off_lane : Layout → ℕ → ℕ → Bool
off_lane l lane k = not (index_of l k % l.n_lanes == lane)

abbrev pub off_order : Layout → ℕ → ℕ → Bool
off_order l from k = nat_lt from k && nat_le (index_of l k) (index_of l (k - 1))

-- each rule as a test that is true where the rule is broken

unfoldable pub too_long : Layout → Bool
too_long l = nat_le (2 ^ 64) (l.offset + l.len)

unfoldable pub lane_count : Layout → Bool
lane_count l = not (any_below (λ c. l.n_lanes == 2 ^ c) 8)

unfoldable pub lane_offset : Layout → Bool
lane_offset l = nat_le 1024 l.offset

unfoldable pub lane_offsets_type : Layout → Bool
lane_offsets_type l = not (is_u32 l.lane_offsets.dtype)

unfoldable pub lane_offsets_length : Layout → Bool
lane_offsets_length l = not (length l.lane_offsets.rows == l.n_lanes * chunks_of (l.offset + l.len) + 1)

unfoldable pub lane_offsets_fall : Layout → Bool
lane_offsets_fall l = not (non_decreasing (numbers_of l.lane_offsets.rows))

unfoldable pub lane_offsets_end : Layout → Bool
lane_offsets_end l = nat_lt (exceptions l) (lane_start l (entries l))

unfoldable pub lane_index_type : Layout → Bool
lane_index_type l = not (is_u16 l.patch_indices.dtype)

unfoldable pub lane_lengths : Layout → Bool
lane_lengths l = not (exceptions l == length l.patch_values.rows)

unfoldable pub lane_too_many : Layout → Bool
lane_too_many l = nat_le (2 ^ 32) (exceptions l)

unfoldable pub lane_index_range : Layout → Bool
lane_index_range l = any_between (over_range l) (lane_start l 0) (lane_start l (entries l))

unfoldable pub lane_index_lane : Layout → Bool
lane_index_lane l = any_entry l (λ g. off_lane l (g % l.n_lanes)) (entries l)

unfoldable pub lane_index_order : Layout → Bool
lane_index_order l = any_entry l (λ g. off_order l (lane_start l g)) (entries l)

unfoldable pub lane_value_null : Layout → Bool
lane_value_null l = not (all_valid l.patch_values.rows)

-- the rules of the lane offsets and of what their number hangs on
abbrev pub offset_rules : Layout → List (Rule × Bool)
offset_rules l =
    (TooLong, too_long l)
    ∷ (LaneCount, lane_count l)
    ∷ (LaneOffset, lane_offset l)
    ∷ (LaneOffsetsType, lane_offsets_type l)
    ∷ (LaneOffsetsLength, lane_offsets_length l)
    ∷ (LaneOffsetsFall, lane_offsets_fall l)
    ∷ []

-- the rules of the indices
abbrev pub index_rules : Layout → List (Rule × Bool)
index_rules l =
    (LaneOffsetsEnd, lane_offsets_end l)
    ∷ (LaneIndexType, lane_index_type l)
    ∷ (LaneLengths, lane_lengths l)
    ∷ (LaneTooMany, lane_too_many l)
    ∷ (LaneIndexRange, lane_index_range l)
    ∷ (LaneIndexLane, lane_index_lane l)
    ∷ (LaneIndexOrder, lane_index_order l)
    ∷ []

-- the rules of the values, by whether their type is the rows' up to nullability
abbrev pub value_rules : Layout → Bool → List (Rule × Bool)
value_rules l alike = (LaneValueType, not alike) ∷ (LaneValueNull, lane_value_null l) ∷ []

-- the first rule that a layout breaks
abbrev pub layout_fault : Layout → Bool → Option Rule
layout_fault l alike = first_broken (offset_rules l ++ (index_rules l ++ value_rules l alike))

-- the first rule that a layout breaks over rows of a type
abbrev pub IsFirstBroken : DType → Layout → Option Rule → Type 0
IsFirstBroken t l broken = (alike : Bool) × (IsTrue alike ↔ AlikeTypes l.patch_values.dtype t) × (layout_fault l alike ≡ broken)

-- why a layout is refused: by its first broken rule alone
abbrev pub LayoutCause : DType → Layout → ColumnError → Type 0
LayoutCause t l (Malformed at rule) = (at ≡ []) × IsFirstBroken t l (Some rule)
LayoutCause t l e = ⊥
