-- What the type of a column tells of its rows.
use Rattle.std.proofs.Common.{◌≡◌, true, false, refl, Option, Some, None}
use Rattle.vx_rows.specs.Sizes.{type_takes_memory, layer_type_takes_memory}
use Rattle.vx_rows.specs.declared.kinds.PType.{PType}
use Rattle.vx_rows.specs.declared.dtype.DType.{DType, out-DType}
use Rattle.vx_rows.specs.declared.dtype.DType.TheOpen.{DType-F}
use Rattle.vx_base.specs.Numbers.{is_integer, layer_is_integer}
use Rattle.vx_search.specs.Numbers.{ptype_of, layer_ptype}

no_memory : {A B : Type 0} (x : DType-F A B) → layer_is_integer x ≡ true → layer_type_takes_memory x ≡ false
no_memory (DType-F.Primitive p n) h = refl
no_memory (DType-F.Bool n) h = refl
no_memory (DType-F.Decimal d n) h = refl
no_memory (DType-F.Utf8 n) h = cc
no_memory (DType-F.Binary n) h = cc
no_memory (DType-F.List t n) h = cc
no_memory (DType-F.FixedSizeList t k n) h = cc
no_memory (DType-F.Struct fields n) h = cc

-- integers take no memory
pub integers_free : (t : DType) → is_integer t ≡ true → type_takes_memory t ≡ false
integers_free t h = no_memory (out-DType t) h

of_integers : {A B : Type 0} (x : DType-F A B) (p : PType) → layer_ptype x ≡ Some p → layer_is_integer x ≡ true
of_integers (DType-F.Primitive q n) p h = refl
of_integers (DType-F.Bool n) p h = cc
of_integers (DType-F.Decimal d n) p h = cc
of_integers (DType-F.Utf8 n) p h = cc
of_integers (DType-F.Binary n) p h = cc
of_integers (DType-F.List t n) p h = cc
of_integers (DType-F.FixedSizeList t k n) p h = cc
of_integers (DType-F.Struct fields n) p h = cc

-- a type of integers of some width is one of integers
pub integers_of : (t : DType) (p : PType) → ptype_of t ≡ Some p → is_integer t ≡ true
integers_of t p h = of_integers (out-DType t) p h
