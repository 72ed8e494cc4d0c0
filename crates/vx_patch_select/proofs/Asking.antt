-- The rows of a take column as indices.
use Rattle.std.proofs.Common.{ℕ, zero, suc, ℤ, ◌≡◌, ◌∙◌, ◌<◌, ◌≤◌, ◌+◌, ◌*◌, ◌/◌, ◌++◌, sym, ap, refl, subst, arith, length, get_or, take, ◌||◌, Bool, true, false, List, [], ◌∷◌, Option, Some, None}
use Rattle.std.specs.Prelude.{option_map, unsigned_abs}
use Rattle.std.specs.Option.{is_none, is_some}
use Rattle.std.specs.List.{list_any}
use Rattle.std.proofs.lemmas.Bool.{false≢true, and_parts}
use Rattle.std.proofs.lemmas.List.{take_more, map-append}
use Rattle.vx_rows.specs.declared.kinds.Nullability.TheVariants.{NonNullable}
use Rattle.vx_rows.specs.declared.dtype.DType.{DType, out-DType, out-roll-DType}
use Rattle.vx_rows.specs.declared.dtype.DType.TheOpen.{DType-F}
use Rattle.vx_rows.specs.declared.dtype.Fields.{Fields}
use Rattle.vx_rows.specs.declared.value.Value.{Value, out-Value, roll-out-Value, fold-roll-Value, map-Value}
use Rattle.vx_rows.specs.declared.value.Value.TheOpen.{Value-F}
use Rattle.vx_rows.specs.Types.{nullability, layer_with, with_nullability}
use Rattle.vx_rows.specs.Fits.{is_nullable, layer_fits, fits_step, value_fits, row_fits, rows_fit}
use Rattle.vx_base.specs.Numbers.{row_int, layer_is_unsigned}
use Rattle.vx_base.proofs.Numbers.{IsNumber, row_number}
use Rattle.vx_patch_select.specs.Takes.{layer_names_rows, names_rows, asked_index, asked}

abbrev layer_of : Value-F Value → Value-F (DType → Bool)
layer_of x = map-Value Value (DType → Bool) value_fits x

fits_layer : (v : Value) (t : DType) → value_fits v t ≡ layer_fits (λ f s. f s) (layer_of (out-Value v)) (out-DType t)
fits_layer v t = ap (λ w. value_fits w t) (sym (roll-out-Value v)) ∙ ap (λ f. f t) (fold-roll-Value (DType → Bool) fits_step (out-Value v))

-- a value fits a type of integers whether a null does or not
layer_same : (x : Value-F (DType → Bool)) (y : DType-F DType Fields) → layer_names_rows y ≡ true → layer_fits (λ f s. f s) x (layer_with NonNullable y) ≡ layer_fits (λ f s. f s) x y
layer_same (Value-F.Int z) (DType-F.Primitive p n) h = refl
layer_same x (DType-F.Primitive p n) h = refl
layer_same x y h = absurd (false≢true h)

layer_unsigned : (y : DType-F DType Fields) → layer_names_rows y ≡ true → layer_is_unsigned (layer_with NonNullable y) ≡ true
layer_unsigned (DType-F.Primitive p n) h = h
layer_unsigned y h = absurd (false≢true h)

-- a value of such a type is a number of 64 bits
value_number : (t : DType) (v : Value) → row_fits t (Some v) ≡ true → names_rows t ≡ true → IsNumber (row_int (Some v))
value_number t v e h =
    let strict = with_nullability t NonNullable in
    let out : out-DType strict ≡ layer_with NonNullable (out-DType t) = out-roll-DType (layer_with NonNullable (out-DType t)) in
    let fits : row_fits strict (Some v) ≡ true =
    fits_layer v strict ∙ ap (layer_fits (λ f s. f s) (layer_of (out-Value v))) out ∙ layer_same (layer_of (out-Value v)) (out-DType t) h ∙ sym (fits_layer v t) ∙ e in
    row_number strict (Some v) fits (ap layer_is_unsigned out ∙ layer_unsigned (out-DType t) h)

fits_at : (t : DType) (rs : List (Option Value)) (i : ℕ) → rows_fit t rs ≡ true → i < length rs → row_fits t (get_or rs i None) ≡ true
fits_at t [] i e h = absurd (omega arith)
fits_at t (r ∷ rs) zero e h = (and_parts (row_fits t r) (rows_fit t rs) e).0
fits_at t (r ∷ rs) (suc i) e h = fits_at t rs i (and_parts (row_fits t r) (rows_fit t rs) e).1 (omega arith)

some_number : (t : DType) (r : Option Value) (z : ℤ) → row_fits t r ≡ true → names_rows t ≡ true → Some z ≡ row_int r → IsNumber (Some z)
some_number t None z e h is = absurd (false≢true (sym (ap is_some is)))
some_number t (Some v) z e h is = subst IsNumber (sym is) (value_number t v e h)

-- the number of a row that isn't null
pub number_of_row : (t : DType) (rs : List (Option Value)) (i : ℕ) (z : ℤ) → rows_fit t rs ≡ true → names_rows t ≡ true → i < length rs → Some z ≡ row_int (get_or rs i None) → IsNumber (Some z)
number_of_row t rs i z e h k is = some_number t (get_or rs i None) z (fits_at t rs i e k) h is

pub asked_more : (rows : List (Option Value)) (i : ℕ) → i < length rows → asked (take (i + 1) rows) ≡ asked (take i rows) ++ asked_index (get_or rows i None) ∷ []
asked_more rows i h = ap asked (take_more rows i None h) ∙ map-append asked_index (take i rows) (get_or rows i None ∷ [])

-- ---- no index is absent where a null is no row

present_one : (t : DType) (r : Option Value) → row_fits t r ≡ true → names_rows t ≡ true → is_nullable (nullability t) ≡ false → is_none (asked_index r) ≡ false
present_one t None e h n = absurd (false≢true (sym n ∙ e))
present_one t (Some v) e h n = ap (λ o. is_none (option_map unsigned_abs o)) (value_number t v e h).is

pub all_present : (t : DType) (rs : List (Option Value)) → rows_fit t rs ≡ true → names_rows t ≡ true → is_nullable (nullability t) ≡ false → list_any is_none (asked rs) ≡ false
all_present t [] e h n = refl
all_present t (r ∷ rs) e h n =
    let both = and_parts (row_fits t r) (rows_fit t rs) e in
    or_no (is_none (asked_index r)) (list_any is_none (asked rs)) (present_one t r both.0 h n) (all_present t rs both.1 h n)
  where
    or_no : (a b : Bool) → a ≡ false → b ≡ false → (a || b) ≡ false
    or_no false false x y = refl
    or_no false true x y = y
    or_no true b x y = x

-- ---- what is raised

pub asked_cost : (old mid now n m cost : ℕ) → m ≡ n → mid ≤ old + n → now ≤ mid + m * cost → now ≤ old + n * (cost + 1)
asked_cost old mid now n m cost e h k = omega (arith, ap (λ (x : ℕ). x * cost) e)

pub taken_cost : (old mid now n k cost : ℕ) → k ≤ n → mid ≤ old + n * (cost + 1) → now ≤ mid + 2 * k → now ≤ old + n * (cost + 3)
taken_cost old mid now n k cost few h l = omega arith

pub map_cost : (old mid now m n : ℕ) → mid ≤ old + m → now ≤ mid + n * 3 → now ≤ old + m + n * 3
map_cost old mid now m n h k = omega arith

pub few_cost : (old now m n cost : ℕ) → m / 5 < n → now ≤ old + m + n * 3 → now ≤ old + n * (cost + 8)
few_cost old now m n cost h k = omega arith

pub many_cost : (old now n cost : ℕ) → now ≤ old + n * (cost + 3) → now ≤ old + n * (cost + 8)
many_cost old now n cost h = omega arith
