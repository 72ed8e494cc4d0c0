-- The rules of chunk boundaries that are kept as a column, in their order.
use Rattle.std.specs.Prelude.{ℕ, ◌+◌, ◌-◌, Bool, true, false, not, ◌==◌, List, [], ◌∷◌, length, slice_index, Option}
use Rattle.vx_rows.specs.declared.kinds.PType.TheVariants.{U64}
use Rattle.vx_rows.specs.declared.kinds.Nullability.TheVariants.{NonNullable}
use Rattle.vx_rows.specs.declared.dtype.DType.{DType, out-DType}
use Rattle.vx_rows.specs.declared.dtype.DType.TheOpen.{DType-F}
use Rattle.vx_rows.specs.declared.error.Rule.{Rule}
use Rattle.vx_rows.specs.declared.error.Rule.TheVariants.{BoundaryType, BoundaryCount, BoundaryStart, BoundaryFall, BoundaryEnd, BoundaryLength}
use Rattle.vx_base.specs.Column.{Flat}
use Rattle.vx_base.specs.Numbers.{numbers_of}
use Rattle.vx_base.specs.Checks.{non_decreasing}
use Rattle.vx_base.specs.Rules.{first_broken}
use Rattle.vx_lanes.specs.Rules.{any_below}

abbrev pub layer_is_u64 : {A B : Type 0} → DType-F A B → Bool
layer_is_u64 (DType-F.Primitive U64 NonNullable) = true
layer_is_u64 t = false

-- the type of boundaries: null is no row
abbrev pub is_u64 : DType → Bool
is_u64 t = layer_is_u64 (out-DType t)

-- where a chunk starts, and the one before it ends
abbrev pub bound_at : Flat → ℕ → ℕ
bound_at offsets k = slice_index (numbers_of offsets.rows) k

-- a chunk's length isn't its span
abbrev pub off_span : Flat → List ℕ → ℕ → Bool
off_span offsets lens k = not (slice_index lens k == bound_at offsets (k + 1) - bound_at offsets k)

-- each rule as a test that is true where the rule is broken, by the lengths of the chunks

unfoldable pub boundary_type : Flat → Bool
boundary_type offsets = not (is_u64 offsets.dtype)

unfoldable pub boundary_count : Flat → List ℕ → Bool
boundary_count offsets lens = not (length offsets.rows == length lens + 1)

unfoldable pub boundary_start : Flat → Bool
boundary_start offsets = not (bound_at offsets 0 == 0)

unfoldable pub boundary_fall : Flat → Bool
boundary_fall offsets = not (non_decreasing (numbers_of offsets.rows))

unfoldable pub boundary_end : ℕ → Flat → Bool
boundary_end len offsets = not (bound_at offsets (length offsets.rows - 1) == len)

unfoldable pub boundary_length : Flat → List ℕ → Bool
boundary_length offsets lens = any_below (off_span offsets lens) (length lens)

-- where `len` rows are declared
abbrev pub boundary_rules : ℕ → Flat → List ℕ → List (Rule × Bool)
boundary_rules len offsets lens =
    (BoundaryType, boundary_type offsets)
    ∷ (BoundaryCount, boundary_count offsets lens)
    ∷ (BoundaryStart, boundary_start offsets)
    ∷ (BoundaryFall, boundary_fall offsets)
    ∷ (BoundaryEnd, boundary_end len offsets)
    ∷ (BoundaryLength, boundary_length offsets lens)
    ∷ []

-- the first rule that boundaries of chunks of these lengths break
abbrev pub boundary_fault : ℕ → Flat → List ℕ → Option Rule
boundary_fault len offsets lens = first_broken (boundary_rules len offsets lens)
