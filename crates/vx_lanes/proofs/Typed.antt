-- What the types of a layout's columns say of their rows.
use Rattle.std.proofs.Common.{◌≡◌, refl, true}
use Rattle.std.proofs.lemmas.Bool.{false≢true}
use Rattle.vx_rows.specs.declared.kinds.PType.TheVariants.{U16, U32}
use Rattle.vx_rows.specs.declared.kinds.Nullability.TheVariants.{NonNullable}
use Rattle.vx_rows.specs.declared.dtype.DType.{DType, out-DType}
use Rattle.vx_rows.specs.declared.dtype.DType.TheOpen.{DType-F}
use Rattle.vx_rows.specs.declared.dtype.Fields.{Fields}
use Rattle.vx_base.specs.Numbers.{is_integer, is_unsigned, layer_is_integer, layer_is_unsigned}
use Rattle.vx_lanes.specs.Layouts.{is_u16, is_u32, layer_is_u16, layer_is_u32}

unsigned_layer : (y : DType-F DType Fields) → layer_is_unsigned y ≡ true → layer_is_integer y ≡ true
unsigned_layer (DType-F.Primitive p n) e = refl
unsigned_layer y e = absurd (false≢true e)

pub unsigned_integer : (t : DType) → is_unsigned t ≡ true → is_integer t ≡ true
unsigned_integer t e = unsigned_layer (out-DType t) e

u32_layer : (y : DType-F DType Fields) → layer_is_u32 y ≡ true → layer_is_unsigned y ≡ true
u32_layer (DType-F.Primitive U32 NonNullable) e = refl
u32_layer y e = absurd (false≢true e)

pub u32_unsigned : (t : DType) → is_u32 t ≡ true → is_unsigned t ≡ true
u32_unsigned t e = u32_layer (out-DType t) e

u16_layer : (y : DType-F DType Fields) → layer_is_u16 y ≡ true → layer_is_unsigned y ≡ true
u16_layer (DType-F.Primitive U16 NonNullable) e = refl
u16_layer y e = absurd (false≢true e)

pub u16_unsigned : (t : DType) → is_u16 t ≡ true → is_unsigned t ≡ true
u16_unsigned t e = u16_layer (out-DType t) e
