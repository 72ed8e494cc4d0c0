-- How a number or null stands to a number, and which type of integers a column has.
use Rattle.std.specs.Prelude.{ℤ, pos, Option, Some, None}
use Rattle.std.specs.declared.cmp.Ordering.{Ordering}
use Rattle.std.specs.declared.cmp.Ordering.TheVariants.{Less, Equal, Greater}
use Rattle.std.specs.Ordering.{int_cmp}
use Rattle.vx_rows.specs.declared.kinds.PType.{PType}
use Rattle.vx_rows.specs.declared.dtype.DType.{DType, out-DType}
use Rattle.vx_rows.specs.declared.dtype.DType.TheOpen.{DType-F}

-- null counts as zero
abbrev pub or_zero : Option ℤ → ℤ
or_zero None = pos 0
or_zero (Some z) = z

-- null comes first
abbrev pub maybe_cmp : {V : Type 0} → (V → ℤ) → Option ℤ → Option V → Ordering
maybe_cmp value None None = Equal
maybe_cmp value None (Some y) = Less
maybe_cmp value (Some x) None = Greater
maybe_cmp value (Some x) (Some y) = int_cmp x (value y)

abbrev pub layer_ptype : {A B : Type 0} → DType-F A B → Option PType
layer_ptype (DType-F.Primitive p n) = Some p
layer_ptype t = None

-- the type of integers, where it is one
abbrev pub ptype_of : DType → Option PType
ptype_of t = layer_ptype (out-DType t)
