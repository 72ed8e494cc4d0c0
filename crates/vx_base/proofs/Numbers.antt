-- The rows of an unsigned type are numbers of 64 bits.
use Rattle.std.proofs.Common.{ℕ, zero, suc, ℤ, pos, negsuc, ◌≡◌, ◌∙◌, ◌<◌, ◌≤◌, sym, ap, refl, arith, length, get_or, slice_index, int_le, Bool, true, false, List, [], ◌∷◌, Option, Some, None}
use Rattle.std.proofs.lemmas.Bool.{false≢true, and_parts}
use Rattle.std.proofs.lemmas.Int.{ints}
use Rattle.std.proofs.lemmas.List.{get_or-map}
use Rattle.vx_rows.specs.declared.kinds.PType.{PType}
use Rattle.vx_rows.specs.declared.kinds.PType.TheVariants.{U8, U16, U32, U64}
use Rattle.vx_rows.specs.declared.kinds.Nullability.TheVariants.{NonNullable, Nullable}
use Rattle.vx_rows.specs.declared.dtype.DType.{DType, out-DType}
use Rattle.vx_rows.specs.declared.dtype.DType.TheOpen.{DType-F}
use Rattle.vx_rows.specs.declared.dtype.Fields.{Fields}
use Rattle.vx_rows.specs.declared.value.Value.{Value, out-Value, roll-out-Value, fold-roll-Value, map-Value}
use Rattle.vx_rows.specs.declared.value.Value.TheOpen.{Value-F}
use Rattle.vx_rows.specs.Types.{layer_nullability}
use Rattle.vx_rows.specs.Fits.{is_nullable, ptype_min, ptype_max, is_in_range, layer_fits, fits_step, value_fits, row_fits, rows_fit}
use Rattle.vx_base.specs.Numbers.{row_int, layer_int, magnitude, numbers_of, is_unsigned, layer_is_unsigned, is_unsigned_ptype}

pub record IsNumber (o : Option ℤ) : Type 0 where
  pub number : ℕ
  pub is : o ≡ Some (pos number)
  pub fits : number < 18446744073709551616

abbrev layer_of : Value-F Value → Value-F (DType → Bool)
layer_of x = map-Value Value (DType → Bool) value_fits x

-- a number from 0 to a bound of 64 bits
between : (z : ℤ) (n : ℕ) → n < 18446744073709551616 → int_le (pos 0) z ≡ true → int_le z (pos n) ≡ true → IsNumber (Some z)
between (pos k) n h low high = record { number = k; is = refl; fits = let b : k ≤ n = grind (arith, ints) in omega arith }
between (negsuc k) n h low high = absurd (grind (arith, ints))

in_range : (p : PType) (z : ℤ) → is_in_range p z ≡ true → is_unsigned_ptype p ≡ true → IsNumber (Some z)
in_range p z e h = within p (and_parts (int_le (ptype_min p) z) (int_le z (ptype_max p)) e) h where
  within : (p : PType) → (int_le (ptype_min p) z ≡ true) × (int_le z (ptype_max p) ≡ true) → is_unsigned_ptype p ≡ true → IsNumber (Some z)
  within U8 b h = between z 255 (omega arith) b.0 b.1
  within U16 b h = between z 65535 (omega arith) b.0 b.1
  within U32 b h = between z 4294967295 (omega arith) b.0 b.1
  within U64 b h = between z 18446744073709551615 (omega arith) b.0 b.1
  within p b h = absurd (false≢true h)

layer_number : (x : Value-F Value) (y : DType-F DType Fields) → layer_fits (λ f t. f t) (layer_of x) y ≡ true → layer_is_unsigned y ≡ true → IsNumber (layer_int x)
layer_number (Value-F.Int z) (DType-F.Primitive p NonNullable) e h = in_range p z e h
layer_number x (DType-F.Primitive p Nullable) e h = absurd (false≢true h)
layer_number (Value-F.Bool b) (DType-F.Primitive p NonNullable) e h = absurd (false≢true e)
layer_number (Value-F.Decimal z) (DType-F.Primitive p NonNullable) e h = absurd (false≢true e)
layer_number (Value-F.Utf8 s) (DType-F.Primitive p NonNullable) e h = absurd (false≢true e)
layer_number (Value-F.Binary s) (DType-F.Primitive p NonNullable) e h = absurd (false≢true e)
layer_number (Value-F.List rs) (DType-F.Primitive p NonNullable) e h = absurd (false≢true e)
layer_number (Value-F.Struct rs) (DType-F.Primitive p NonNullable) e h = absurd (false≢true e)
layer_number x y e h = absurd (false≢true h)

-- a value by its layer
fits_layer : (v : Value) (t : DType) → value_fits v t ≡ layer_fits (λ f s. f s) (layer_of (out-Value v)) (out-DType t)
fits_layer v t = ap (λ w. value_fits w t) (sym (roll-out-Value v)) ∙ ap (λ f. f t) (fold-roll-Value (DType → Bool) fits_step (out-Value v))

layer_present : (y : DType-F DType Fields) → layer_is_unsigned y ≡ true → is_nullable (layer_nullability y) ≡ false
layer_present (DType-F.Primitive p NonNullable) h = refl
layer_present y h = absurd (false≢true h)

-- a row that fits an unsigned type
pub row_number : (t : DType) (r : Option Value) → row_fits t r ≡ true → is_unsigned t ≡ true → IsNumber (row_int r)
row_number t None e h = absurd (false≢true (sym (layer_present (out-DType t) h) ∙ e))
row_number t (Some v) e h = layer_number (out-Value v) (out-DType t) (sym (fits_layer v t) ∙ e) h

fits_at : (t : DType) (rs : List (Option Value)) (i : ℕ) → rows_fit t rs ≡ true → i < length rs → row_fits t (get_or rs i None) ≡ true
fits_at t [] i e h = absurd (omega arith)
fits_at t (r ∷ rs) zero e h = (and_parts (row_fits t r) (rows_fit t rs) e).0
fits_at t (r ∷ rs) (suc i) e h = fits_at t rs i (and_parts (row_fits t r) (rows_fit t rs) e).1 (omega arith)

-- a row of a column of an unsigned type
pub number_at : (t : DType) (rs : List (Option Value)) (i : ℕ) → rows_fit t rs ≡ true → is_unsigned t ≡ true → i < length rs → IsNumber (row_int (get_or rs i None))
number_at t rs i e h k = row_number t (get_or rs i None) (fits_at t rs i e k) h

pub numbers_at : (rs : List (Option Value)) (i : ℕ) → i < length rs → slice_index (numbers_of rs) i ≡ magnitude (row_int (get_or rs i None))
numbers_at rs i h = get_or-map (λ r. magnitude (row_int r)) rs i None 0 h
