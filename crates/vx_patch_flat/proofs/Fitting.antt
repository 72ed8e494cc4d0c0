-- Rows of a type are rows of a type that takes its values.
use Rattle.std.proofs.Common.{◌≡◌, ◌∙◌, ap, sym, refl, Bool, true, false, ◌&&◌, List, [], ◌∷◌, Option, Some, None}
use Rattle.std.proofs.lemmas.Bool.{false≢true, and_parts}
use Rattle.vx_rows.specs.declared.kinds.Nullability.{Nullability}
use Rattle.vx_rows.specs.declared.kinds.Nullability.TheVariants.{NonNullable, Nullable}
use Rattle.vx_rows.specs.declared.dtype.DType.{DType, out-DType}
use Rattle.vx_rows.specs.declared.dtype.DType.TheOpen.{DType-F}
use Rattle.vx_rows.specs.declared.dtype.Fields.{Fields}
use Rattle.vx_rows.specs.declared.value.Value.{Value, out-Value, roll-out-Value, fold-roll-Value, map-Value}
use Rattle.vx_rows.specs.declared.value.Value.TheOpen.{Value-F}
use Rattle.vx_rows.specs.Types.{AlikeTypes, layer_with, nullability}
use Rattle.vx_rows.specs.Fits.{is_nullable, layer_fits, fits_step, value_fits, row_fits, rows_fit}
use Rattle.vx_base.specs.Column.{Flat, IsFlat}
use Rattle.vx_patches.specs.Pairs.{Overlay, pairs_of}
use Rattle.vx_patches.specs.Places.{rows_of}
use Rattle.vx_bulk.specs.Selections.{overlaid}
use Rattle.vx_patch_flat.specs.Patching.{TakesValues, IsPatchable}
use Rattle.vx_patch_flat.proofs.Laying.{all_overlaid, all_zip}

-- whether a value fits a layer, by its outermost nullability left out
module _ {A : Type 0} (R : A → DType → Bool) where
  plain : (x : Value-F A) (d : DType-F DType Fields) → layer_fits R x (layer_with NonNullable d) ≡ layer_fits R x d
  plain (Value-F.Bool b) (DType-F.Bool n) = refl
  plain (Value-F.Int z) (DType-F.Primitive p n) = refl
  plain (Value-F.Decimal z) (DType-F.Decimal p n) = refl
  plain (Value-F.Utf8 s) (DType-F.Utf8 n) = refl
  plain (Value-F.Binary s) (DType-F.Binary n) = refl
  plain (Value-F.List rs) (DType-F.List t n) = refl
  plain (Value-F.List rs) (DType-F.FixedSizeList t k n) = refl
  plain (Value-F.Struct rs) (DType-F.Struct fs n) = refl
  plain x d = refl

  alike : (x : Value-F A) (d e : DType-F DType Fields) → layer_with NonNullable d ≡ layer_with NonNullable e → layer_fits R x d ≡ layer_fits R x e
  alike x d e same = sym (plain x d) ∙ ap (layer_fits R x) same ∙ plain x e

abbrev layer_of : Value-F Value → Value-F (DType → Bool)
layer_of x = map-Value Value (DType → Bool) value_fits x

-- a value by its layer
fits_layer : (v : Value) (t : DType) → value_fits v t ≡ layer_fits (λ f s. f s) (layer_of (out-Value v)) (out-DType t)
fits_layer v t = ap (λ w. value_fits w t) (sym (roll-out-Value v)) ∙ ap (λ f. f t) (fold-roll-Value (DType → Bool) fits_step (out-Value v))

value_alike : (v : Value) (s t : DType) → AlikeTypes s t → value_fits v s ≡ value_fits v t
value_alike v s t same = fits_layer v s ∙ alike (λ f d. f d) (layer_of (out-Value v)) (out-DType s) (out-DType t) same ∙ sym (fits_layer v t)

null_taken : (m n : Nullability) → (m ≡ NonNullable → n ≡ NonNullable) → is_nullable n ≡ true → is_nullable m ≡ true
null_taken Nullable n h e = refl
null_taken NonNullable n h e = absurd (false≢true (sym (ap is_nullable (h refl)) ∙ e))

row_taken : (base values : DType) → TakesValues base values → (r : Option Value) → row_fits values r ≡ true → row_fits base r ≡ true
row_taken base values t None e = null_taken (nullability base) (nullability values) t.nulls e
row_taken base values t (Some v) e = sym (value_alike v values base t.alike) ∙ e

rows_taken : (base values : DType) → TakesValues base values → (rs : List (Option Value)) → rows_fit values rs ≡ true → rows_fit base rs ≡ true
rows_taken base values t [] e = refl
rows_taken base values t (r ∷ rs) e =
    let both = and_parts (row_fits values r) (rows_fit values rs) e in
    λ i. row_taken base values t r both.0 i && rows_taken base values t rs both.1 i

-- rows, of which exceptions replace some
pub overlaid_fit : (base : Flat) (o : Overlay) → IsPatchable base o → IsFlat base → IsFlat o.values → rows_fit base.dtype (overlaid base.rows (pairs_of o)) ≡ true
overlaid_fit base o p b v =
    all_overlaid (row_fits base.dtype) base.rows (pairs_of o) b (all_zip (row_fits base.dtype) (rows_of o.index) o.values.rows (rows_taken base.dtype o.values.dtype p.takes o.values.rows v))
