-- Boundaries as a column of numbers.
use Rattle.std.specs.Prelude.{ℕ, pos, List, map, Option, Some}
use Rattle.vx_rows.specs.declared.dtype.DType.{DType}
use Rattle.vx_rows.specs.declared.dtype.DType.TheVariants.{Primitive}
use Rattle.vx_rows.specs.declared.kinds.Nullability.TheVariants.{NonNullable}
use Rattle.vx_rows.specs.declared.kinds.PType.TheVariants.{U64}
use Rattle.vx_rows.specs.declared.value.Value.{Value}
use Rattle.vx_rows.specs.declared.value.Value.TheVariants.{Int}
use Rattle.vx_base.specs.Column.{Flat, flat}
use Rattle.vx_chunks.specs.Bounds.{running}

abbrev pub offset_type : DType
offset_type = Primitive U64 NonNullable

abbrev pub offset_row : ℕ → Option Value
offset_row n = Some (Int (pos n))

-- 0 and the running sums of the lengths, a row each
abbrev pub offsets_of : List ℕ → Flat
offsets_of lens = flat offset_type (map offset_row (running 0 lens))
