-- Rows of integers as numbers.
use Rattle.std.proofs.Common.{◌≡◌, ℕ, zero, suc, ◌<◌, ℤ, arith, List, [], ◌∷◌, length, get_or, sym, ◌∙◌, ap, Option, Some, None, Bool, true}
use Rattle.std.specs.Option.{is_some}
use Rattle.std.specs.Ordering.{int_cmp}
use Rattle.std.specs.declared.cmp.Ordering.{Ordering}
use Rattle.std.proofs.lemmas.Bool.{false≢true, and_parts}
use Rattle.vx_rows.specs.declared.dtype.DType.{DType, out-DType}
use Rattle.vx_rows.specs.declared.dtype.DType.TheOpen.{DType-F}
use Rattle.vx_rows.specs.declared.dtype.Fields.{Fields}
use Rattle.vx_rows.specs.declared.value.Value.{Value, out-Value, roll-Value, roll-out-Value, out-roll-Value, fold-roll-Value, map-Value}
use Rattle.vx_rows.specs.declared.value.Value.TheOpen.{Value-F}
use Rattle.vx_rows.specs.declared.value.Value.TheVariants.{Int, rolls-Int}
use Rattle.vx_rows.specs.Fits.{layer_fits, fits_step, value_fits, row_fits, rows_fit}
use Rattle.vx_rows.specs.Order.{apply_to, layer_cmp, row_cmp, value_cmp}
use Rattle.vx_base.specs.Numbers.{row_int, layer_int, is_integer, layer_is_integer}

layer_is : (x : Value-F Value) (n : ℤ) → layer_int x ≡ Some n → roll-Value x ≡ Int n
layer_is (Value-F.Int z) n e = rolls-Int z ∙ ap Int (let same : z ≡ n = cc in same)
layer_is x n e = absurd cc

-- a row that has a number is that number
pub row_is : (r : Option Value) (n : ℤ) → row_int r ≡ Some n → r ≡ Some (Int n)
row_is None n e = absurd cc
row_is (Some v) n e = ap Some (sym (roll-out-Value v) ∙ layer_is (out-Value v) n e)

abbrev layer_of : Value-F Value → Value-F (DType → Bool)
layer_of x = map-Value Value (DType → Bool) value_fits x

layer_some : (x : Value-F Value) (y : DType-F DType Fields) → layer_fits (λ f t. f t) (layer_of x) y ≡ true → layer_is_integer y ≡ true → layer_int x ≡ None → ⊥
layer_some (Value-F.Int z) (DType-F.Primitive p n) e h m = cc
layer_some (Value-F.Bool b) (DType-F.Primitive p n) e h m = false≢true e
layer_some (Value-F.Decimal z) (DType-F.Primitive p n) e h m = false≢true e
layer_some (Value-F.Utf8 s) (DType-F.Primitive p n) e h m = false≢true e
layer_some (Value-F.Binary s) (DType-F.Primitive p n) e h m = false≢true e
layer_some (Value-F.List rs) (DType-F.Primitive p n) e h m = false≢true e
layer_some (Value-F.Struct rs) (DType-F.Primitive p n) e h m = false≢true e
layer_some x y e h m = false≢true h

fits_layer : (v : Value) (t : DType) → value_fits v t ≡ layer_fits (λ f s. f s) (layer_of (out-Value v)) (out-DType t)
fits_layer v t = ap (λ w. value_fits w t) (sym (roll-out-Value v)) ∙ ap (λ f. f t) (fold-roll-Value (DType → Bool) fits_step (out-Value v))

-- and a row of an integer type that isn't null has one
has_number : (t : DType) (r : Option Value) → row_fits t r ≡ true → is_integer t ≡ true → is_some r ≡ true → row_int r ≡ None → ⊥
has_number t None e h s m = false≢true s
has_number t (Some v) e h s m = layer_some (out-Value v) (out-DType t) (sym (fits_layer v t) ∙ e) h m

fits_at : (t : DType) (rs : List (Option Value)) (i : ℕ) → rows_fit t rs ≡ true → i < length rs → row_fits t (get_or rs i None) ≡ true
fits_at t [] i e h = absurd (omega arith)
fits_at t (r ∷ rs) zero e h = (and_parts (row_fits t r) (rows_fit t rs) e).0
fits_at t (r ∷ rs) (suc i) e h = fits_at t rs i (and_parts (row_fits t r) (rows_fit t rs) e).1 (omega arith)

pub number_there : (t : DType) (rs : List (Option Value)) (i : ℕ) → rows_fit t rs ≡ true → is_integer t ≡ true → i < length rs → is_some (get_or rs i None) ≡ true → row_int (get_or rs i None) ≡ None → ⊥
number_there t rs i e h w s m = has_number t (get_or rs i None) (fits_at t rs i e w) h s m

-- numbers as rows are in the order of the numbers
pub int_order : (a b : ℤ) → row_cmp (Some (Int a)) (Some (Int b)) ≡ int_cmp a b
int_order a b =
    ap (λ v. value_cmp v (Int b)) (sym (rolls-Int a)) ∙ ap (λ f. f (Int b)) (fold-roll-Value (Value → Ordering) apply_to (Value-F.Int a))
    ∙ ap (λ x. layer_cmp (λ (f : Value → Ordering) (w : Value). f w) (Value-F.Int a) x) (ap out-Value (sym (rolls-Int b)) ∙ out-roll-Value (Value-F.Int b))
