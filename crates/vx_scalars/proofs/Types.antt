-- Types up to their outermost nullability, and what fits them.
use Rattle.std.proofs.Common.{◌≡◌, ◌∙◌, ap, sym, refl, Bool, true, false, Option, Some, None}
use Rattle.vx_rows.specs.Types.{layer_with, layer_nullability, with_nullability, nullability, AlikeTypes, layer_nested, is_nested}
use Rattle.vx_rows.specs.Fits.{is_nullable, layer_fits, fits_step, value_fits, row_fits}
use Rattle.vx_rows.specs.declared.kinds.Nullability.{Nullability}
use Rattle.vx_rows.specs.declared.kinds.Nullability.TheVariants.{NonNullable, Nullable}
use Rattle.vx_rows.specs.declared.dtype.DType.{DType, out-DType, roll-DType, out-roll-DType, roll-out-DType}
use Rattle.vx_rows.specs.declared.dtype.DType.TheOpen.{DType-F}
use Rattle.vx_rows.specs.declared.dtype.Fields.{Fields}
use Rattle.vx_rows.specs.declared.value.Value.{Value, out-Value, roll-out-Value, fold-roll-Value, map-Value}
use Rattle.vx_rows.specs.declared.value.Value.TheOpen.{Value-F}
use Rattle.vx_base.specs.Numbers.{layer_is_integer, is_integer}
use Rattle.vx_scalars.specs.Elementwise.{either, filled_type}

abbrev Layer : Type 0
Layer = DType-F DType Fields

layer_twice : (m n : Nullability) (y : Layer) → layer_with m (layer_with n y) ≡ layer_with m y
layer_twice m n (DType-F.Bool k) = refl
layer_twice m n (DType-F.Primitive p k) = refl
layer_twice m n (DType-F.Decimal d k) = refl
layer_twice m n (DType-F.Utf8 k) = refl
layer_twice m n (DType-F.Binary k) = refl
layer_twice m n (DType-F.List t k) = refl
layer_twice m n (DType-F.FixedSizeList t s k) = refl
layer_twice m n (DType-F.Struct fs k) = refl

layer_own : (y : Layer) → layer_with (layer_nullability y) y ≡ y
layer_own (DType-F.Bool k) = refl
layer_own (DType-F.Primitive p k) = refl
layer_own (DType-F.Decimal d k) = refl
layer_own (DType-F.Utf8 k) = refl
layer_own (DType-F.Binary k) = refl
layer_own (DType-F.List t k) = refl
layer_own (DType-F.FixedSizeList t s k) = refl
layer_own (DType-F.Struct fs k) = refl

layer_nullability_with : (n : Nullability) (y : Layer) → layer_nullability (layer_with n y) ≡ n
layer_nullability_with n (DType-F.Bool k) = refl
layer_nullability_with n (DType-F.Primitive p k) = refl
layer_nullability_with n (DType-F.Decimal d k) = refl
layer_nullability_with n (DType-F.Utf8 k) = refl
layer_nullability_with n (DType-F.Binary k) = refl
layer_nullability_with n (DType-F.List t k) = refl
layer_nullability_with n (DType-F.FixedSizeList t s k) = refl
layer_nullability_with n (DType-F.Struct fs k) = refl

layer_nested_with : (n : Nullability) (y : Layer) → layer_nested (layer_with n y) ≡ layer_nested y
layer_nested_with n (DType-F.Bool k) = refl
layer_nested_with n (DType-F.Primitive p k) = refl
layer_nested_with n (DType-F.Decimal d k) = refl
layer_nested_with n (DType-F.Utf8 k) = refl
layer_nested_with n (DType-F.Binary k) = refl
layer_nested_with n (DType-F.List t k) = refl
layer_nested_with n (DType-F.FixedSizeList t s k) = refl
layer_nested_with n (DType-F.Struct fs k) = refl

layer_integer_with : (n : Nullability) (y : Layer) → layer_is_integer (layer_with n y) ≡ layer_is_integer y
layer_integer_with n (DType-F.Bool k) = refl
layer_integer_with n (DType-F.Primitive p k) = refl
layer_integer_with n (DType-F.Decimal d k) = refl
layer_integer_with n (DType-F.Utf8 k) = refl
layer_integer_with n (DType-F.Binary k) = refl
layer_integer_with n (DType-F.List t k) = refl
layer_integer_with n (DType-F.FixedSizeList t s k) = refl
layer_integer_with n (DType-F.Struct fs k) = refl

open_with : (t : DType) (n : Nullability) → out-DType (with_nullability t n) ≡ layer_with n (out-DType t)
open_with t n = out-roll-DType (layer_with n (out-DType t))

-- of a type with another nullability
pub nullability_with : (t : DType) (n : Nullability) → nullability (with_nullability t n) ≡ n
nullability_with t n = ap layer_nullability (open_with t n) ∙ layer_nullability_with n (out-DType t)

pub nested_with : (t : DType) (n : Nullability) → is_nested (with_nullability t n) ≡ is_nested t
nested_with t n = ap layer_nested (open_with t n) ∙ layer_nested_with n (out-DType t)

pub integer_with : (t : DType) (n : Nullability) → is_integer (with_nullability t n) ≡ is_integer t
integer_with t n = ap layer_is_integer (open_with t n) ∙ layer_integer_with n (out-DType t)

pub with_own : (t : DType) → with_nullability t (nullability t) ≡ t
with_own t = ap roll-DType (layer_own (out-DType t)) ∙ roll-out-DType t

non_nullable : (n : Nullability) → is_nullable n ≡ false → NonNullable ≡ n
non_nullable NonNullable e = refl
non_nullable Nullable e = absurd (cc)

-- a type without nulls is what rows filled are of
pub filled_type_plain : (t : DType) → is_nullable (nullability t) ≡ false → filled_type t ≡ t
filled_type_plain t e = ap (with_nullability t) (non_nullable (nullability t) e) ∙ with_own t

pub with_twice : (t : DType) (m n : Nullability) → with_nullability (with_nullability t n) m ≡ with_nullability t m
with_twice t m n = ap (λ y. roll-DType (layer_with m y)) (open_with t n) ∙ ap roll-DType (layer_twice m n (out-DType t))

-- types that differ in their nullability at most
pub with_alike : (s t : DType) (n : Nullability) → AlikeTypes s t → with_nullability s n ≡ with_nullability t n
with_alike s t n e =
    ap roll-DType (sym (layer_twice n NonNullable (out-DType s)) ∙ ap (layer_with n) e ∙ layer_twice n NonNullable (out-DType t))

pub alike_with : (t : DType) (n : Nullability) → AlikeTypes (with_nullability t n) t
alike_with t n = ap (layer_with NonNullable) (open_with t n) ∙ layer_twice NonNullable n (out-DType t)

pub nested_alike : (s t : DType) → AlikeTypes s t → is_nested s ≡ is_nested t
nested_alike s t e = sym (layer_nested_with NonNullable (out-DType s)) ∙ ap layer_nested e ∙ layer_nested_with NonNullable (out-DType t)

pub integer_alike : (s t : DType) → AlikeTypes s t → is_integer s ≡ is_integer t
integer_alike s t e = sym (layer_integer_with NonNullable (out-DType s)) ∙ ap layer_is_integer e ∙ layer_integer_with NonNullable (out-DType t)

abbrev applied : (DType → Bool) → DType → Bool
applied f t = f t

abbrev layer_of : Value-F Value → Value-F (DType → Bool)
layer_of x = map-Value Value (DType → Bool) value_fits x

-- a value by its layer
fits_layer : (v : Value) (t : DType) → value_fits v t ≡ layer_fits applied (layer_of (out-Value v)) (out-DType t)
fits_layer v t = ap (λ w. value_fits w t) (sym (roll-out-Value v)) ∙ ap (λ f. f t) (fold-roll-Value (DType → Bool) fits_step (out-Value v))

layer_fits_with : (x : Value-F (DType → Bool)) (n : Nullability) (y : Layer) → layer_fits applied x (layer_with n y) ≡ layer_fits applied x y
layer_fits_with (Value-F.Bool b) n (DType-F.Bool m) = refl
layer_fits_with (Value-F.Int z) n (DType-F.Primitive p m) = refl
layer_fits_with (Value-F.Decimal z) n (DType-F.Decimal d m) = refl
layer_fits_with (Value-F.Utf8 s) n (DType-F.Utf8 m) = refl
layer_fits_with (Value-F.Binary s) n (DType-F.Binary m) = refl
layer_fits_with (Value-F.List rs) n (DType-F.List t m) = refl
layer_fits_with (Value-F.List rs) n (DType-F.FixedSizeList t k m) = refl
layer_fits_with (Value-F.Struct rs) n (DType-F.Struct fs m) = refl
layer_fits_with x n y = refl

-- a value fits whether a null does or not
pub value_fits_with : (v : Value) (t : DType) (n : Nullability) → value_fits v (with_nullability t n) ≡ value_fits v t
value_fits_with v t n =
    fits_layer v (with_nullability t n) ∙ ap (layer_fits applied (layer_of (out-Value v))) (open_with t n)
    ∙ layer_fits_with (layer_of (out-Value v)) n (out-DType t) ∙ sym (fits_layer v t)

pub value_fits_alike : (v : Value) (s t : DType) → AlikeTypes s t → value_fits v s ≡ value_fits v t
value_fits_alike v s t e = sym (value_fits_with v s NonNullable) ∙ ap (value_fits v) (with_alike s t NonNullable e) ∙ value_fits_with v t NonNullable

pub nullable_left : (m n : Nullability) → is_nullable m ≡ true → is_nullable (either m n) ≡ true
nullable_left NonNullable n e = absurd (cc)
nullable_left Nullable n e = refl

pub nullable_right : (m n : Nullability) → is_nullable n ≡ true → is_nullable (either m n) ≡ true
nullable_right NonNullable n e = e
nullable_right Nullable n e = refl

-- what fits one of two alike types fits the type that is nullable where one of the two is
pub fits_left : (t s : DType) (r : Option Value) → row_fits t r ≡ true → row_fits (with_nullability t (either (nullability t) (nullability s))) r ≡ true
fits_left t s None h = ap is_nullable (nullability_with t (either (nullability t) (nullability s))) ∙ nullable_left (nullability t) (nullability s) h
fits_left t s (Some v) h = value_fits_with v t (either (nullability t) (nullability s)) ∙ h

pub fits_right : (t s : DType) (r : Option Value) → AlikeTypes t s → row_fits s r ≡ true → row_fits (with_nullability t (either (nullability t) (nullability s))) r ≡ true
fits_right t s None e h = ap is_nullable (nullability_with t (either (nullability t) (nullability s))) ∙ nullable_right (nullability t) (nullability s) h
fits_right t s (Some v) e h = value_fits_with v t (either (nullability t) (nullability s)) ∙ value_fits_alike v t s e ∙ h
