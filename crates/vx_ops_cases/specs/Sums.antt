-- What the function gives that the cases push through chunks: the sum of a row and of its first sibling.
use Rattle.std.specs.Prelude.{ℤ, pos, cond, List, [], ◌∷◌, Option, Some, None}
use Rattle.std.specs.Int.{w128, int_wrapping_add}
use Rattle.vx_rows.specs.declared.kinds.Nullability.TheVariants.{Nullable}
use Rattle.vx_rows.specs.declared.kinds.PType.TheVariants.{I64}
use Rattle.vx_rows.specs.declared.dtype.DType.{DType, Primitive, out-DType}
use Rattle.vx_rows.specs.declared.dtype.DType.TheOpen.{DType-F}
use Rattle.vx_rows.specs.declared.value.Value.{Value, Int}
use Rattle.vx_rows.specs.Fits.{row_fits}
use Rattle.vx_base.specs.Numbers.{row_int}
use Rattle.vx_scalars.specs.Scalars.{ScalarView}

abbrev pub sum_type : DType
sum_type = Primitive I64 Nullable

abbrev pub layer_out : {A B : Type 0} → DType-F A B → Option DType
layer_out (DType-F.Primitive p n) = Some sum_type
layer_out t = None

-- the type of the sums of rows of a type of integers
abbrev pub out_type : DType → Option DType
out_type t = layer_out (out-DType t)

abbrev pub number_or : ℤ → Option ℤ → ℤ
number_or a None = a
number_or a (Some z) = z

-- what is added: the first sibling, or 1 where there is none
abbrev pub addend : List ScalarView → ℤ
addend [] = pos 1
addend (s ∷ siblings) = number_or (pos 0) (row_int s.row)

abbrev pub plus : ℤ → Option ℤ → Option Value
plus a None = None
plus a (Some z) = Some (Int (int_wrapping_add w128 z a))

abbrev pub if_fits : Option Value → Option Value
if_fits row = cond (row_fits sum_type row) row None

-- the sum, and null where it takes more than 64 bits
abbrev pub sum : Option Value → List ScalarView → Option Value
sum row siblings = if_fits (plus (addend siblings) (row_int row))
