-- Rows of a type without texts, bytes or rows within take no memory.
use Rattle.std.proofs.Common.{ℕ, zero, suc, ◌≡◌, ◌∙◌, sym, ap, refl, get_or, Bool, true, false, List, [], ◌∷◌, Option, Some, None}
use Rattle.std.proofs.lemmas.Bool.{false≢true, and_parts}
use Rattle.vx_rows.specs.declared.dtype.DType.{DType, out-DType}
use Rattle.vx_rows.specs.declared.dtype.DType.TheOpen.{DType-F}
use Rattle.vx_rows.specs.declared.dtype.Fields.{Fields}
use Rattle.vx_rows.specs.declared.value.Value.{Value, out-Value, roll-out-Value, fold-roll-Value, map-Value}
use Rattle.vx_rows.specs.declared.value.Value.TheOpen.{Value-F}
use Rattle.vx_rows.specs.Fits.{layer_fits, fits_step, value_fits, row_fits, rows_fit}
use Rattle.vx_rows.specs.Sizes.{layer_takes_memory, row_takes_memory, layer_type_takes_memory, type_takes_memory}

abbrev layer_of : Value-F Value → Value-F (DType → Bool)
layer_of x = map-Value Value (DType → Bool) value_fits x

layer_free : (x : Value-F Value) (y : DType-F DType Fields) → layer_fits (λ f t. f t) (layer_of x) y ≡ true → layer_type_takes_memory y ≡ false → layer_takes_memory x ≡ false
layer_free (Value-F.Bool b) y e h = refl
layer_free (Value-F.Int z) y e h = refl
layer_free (Value-F.Decimal z) y e h = refl
layer_free (Value-F.Utf8 s) (DType-F.Bool n) e h = absurd (false≢true e)
layer_free (Value-F.Utf8 s) (DType-F.Primitive p n) e h = absurd (false≢true e)
layer_free (Value-F.Utf8 s) (DType-F.Decimal d n) e h = absurd (false≢true e)
layer_free (Value-F.Utf8 s) y e h = absurd (false≢true (sym h))
layer_free (Value-F.Binary s) (DType-F.Bool n) e h = absurd (false≢true e)
layer_free (Value-F.Binary s) (DType-F.Primitive p n) e h = absurd (false≢true e)
layer_free (Value-F.Binary s) (DType-F.Decimal d n) e h = absurd (false≢true e)
layer_free (Value-F.Binary s) y e h = absurd (false≢true (sym h))
layer_free (Value-F.List rs) (DType-F.Bool n) e h = absurd (false≢true e)
layer_free (Value-F.List rs) (DType-F.Primitive p n) e h = absurd (false≢true e)
layer_free (Value-F.List rs) (DType-F.Decimal d n) e h = absurd (false≢true e)
layer_free (Value-F.List rs) y e h = absurd (false≢true (sym h))
layer_free (Value-F.Struct rs) (DType-F.Bool n) e h = absurd (false≢true e)
layer_free (Value-F.Struct rs) (DType-F.Primitive p n) e h = absurd (false≢true e)
layer_free (Value-F.Struct rs) (DType-F.Decimal d n) e h = absurd (false≢true e)
layer_free (Value-F.Struct rs) y e h = absurd (false≢true (sym h))

-- a value by its layer
fits_layer : (v : Value) (t : DType) → value_fits v t ≡ layer_fits (λ f s. f s) (layer_of (out-Value v)) (out-DType t)
fits_layer v t = ap (λ w. value_fits w t) (sym (roll-out-Value v)) ∙ ap (λ f. f t) (fold-roll-Value (DType → Bool) fits_step (out-Value v))

pub row_free : (t : DType) (r : Option Value) → row_fits t r ≡ true → type_takes_memory t ≡ false → row_takes_memory r ≡ false
row_free t None e h = refl
row_free t (Some v) e h = layer_free (out-Value v) (out-DType t) (sym (fits_layer v t) ∙ e) h

pub rows_free : (t : DType) (rs : List (Option Value)) (k : ℕ) → rows_fit t rs ≡ true → type_takes_memory t ≡ false → row_takes_memory (get_or rs k None) ≡ false
rows_free t [] k e h = refl
rows_free t (r ∷ rs) zero e h = row_free t r (and_parts (row_fits t r) (rows_fit t rs) e).0 h
rows_free t (r ∷ rs) (suc k) e h = rows_free t rs k (and_parts (row_fits t r) (rows_fit t rs) e).1 h
