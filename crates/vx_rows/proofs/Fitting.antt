-- The equations of fitting.
use Rattle.std.proofs.Common.{ℕ, suc, ◌≡◌, ◌≢◌, ◌<◌, ◌≤◌, ◌^◌, ◌∙◌, length, arith, sym, ap, List, [], ◌∷◌, Option, Some, None, map, refl, Bool, true, false, ◌&&◌, nat_eq}
use Rattle.std.specs.List.{list_all}
use Rattle.std.proofs.Math.Nat.{pow-le-pow_right}
use Rattle.vx_rows.specs.declared.kinds.Nullability.{Nullability}
use Rattle.vx_rows.specs.declared.dtype.DType.{DType, List as ListType, FixedSizeList, Struct as StructType, out-DType, out-roll-DType}
use Rattle.vx_rows.specs.declared.dtype.DType.TheOpen.{DType-F}
use Rattle.vx_rows.specs.declared.dtype.DType.TheVariants as Types
use Rattle.vx_rows.specs.declared.dtype.Fields.{Fields, out-Fields}
use Rattle.vx_rows.specs.declared.value.Value.{Value, List as Listed, Struct, fold-roll-Value, roll-Value, map-Value}
use Rattle.vx_rows.specs.declared.value.Value.TheShapes.{former-Value-List-0-at-1}
use Rattle.vx_rows.specs.declared.value.Value.TheVariants.{rolls-List, rolls-Struct}
use Rattle.vx_rows.specs.declared.value.Value.TheOpen.{Value-F}
use Rattle.vx_rows.specs.Fits.{option_fits, each_fits, layer_fits, fits_step, value_fits, row_fits, rows_fit}

abbrev applied : (DType → Bool) → DType → Bool
applied f t = f t

-- `g` is how a fold goes into an option
module _ (g : Option Value → Option (DType → Bool)) (none : g None ≡ None) (some : (v : Value) → g (Some v) ≡ Some (value_fits v)) where
  row_layer : (t : DType) (r : Option Value) → option_fits applied t (g r) ≡ row_fits t r
  row_layer t None = ap (option_fits applied t) none
  row_layer t (Some v) = ap (option_fits applied t) (some v)

  rows_layer : (t : DType) (rs : List (Option Value)) → list_all (option_fits applied t) (map g rs) ≡ rows_fit t rs
  rows_layer t [] = refl
  rows_layer t (r ∷ rs) = λ i. row_layer t r i && rows_layer t rs i

  each_layer : {N : Type 0} (fs : List (N × DType)) (rs : List (Option Value)) → each_fits applied fs (map g rs) ≡ each_fits value_fits fs rs
  each_layer [] [] = refl
  each_layer [] (r ∷ rs) = refl
  each_layer (f ∷ fs) [] = refl
  each_layer (f ∷ fs) (r ∷ rs) = λ i. row_layer f.1 r i && each_layer fs rs i

  length_layer : (rs : List (Option Value)) → length (map g rs) ≡ length rs
  length_layer [] = refl
  length_layer (r ∷ rs) = ap suc (length_layer rs)

at_list : (y : Value-F (DType → Bool)) (t : DType) (n : Nullability) → fits_step y (ListType t n) ≡ layer_fits applied y (DType-F.List t n)
at_list y t n = ap (layer_fits applied y) (ap out-DType (sym (Types.rolls-List t n)) ∙ out-roll-DType (DType-F.List t n))

at_fixed : (y : Value-F (DType → Bool)) (t : DType) (k : ℕ) (n : Nullability) → fits_step y (FixedSizeList t k n) ≡ layer_fits applied y (DType-F.FixedSizeList t k n)
at_fixed y t k n = ap (layer_fits applied y) (ap out-DType (sym (Types.rolls-FixedSizeList t k n)) ∙ out-roll-DType (DType-F.FixedSizeList t k n))

at_struct : (y : Value-F (DType → Bool)) (fs : Fields) (n : Nullability) → fits_step y (StructType fs n) ≡ layer_fits applied y (DType-F.Struct fs n)
at_struct y fs n = ap (layer_fits applied y) (ap out-DType (sym (Types.rolls-Struct fs n)) ∙ out-roll-DType (DType-F.Struct fs n))

list_step : (rs : List (Option Value)) (d : DType) → value_fits (Listed rs) d ≡ value_fits (roll-Value (Value-F.List rs)) d
list_step rs d = ap (λ v. value_fits v d) (sym (rolls-List rs))

struct_step : (rs : List (Option Value)) (d : DType) → value_fits (Struct rs) d ≡ value_fits (roll-Value (Value-F.Struct rs)) d
struct_step rs d = ap (λ v. value_fits v d) (sym (rolls-Struct rs))

-- how a fold goes into an option
abbrev within : Option Value → Option (DType → Bool)
within o = former-Value-List-0-at-1.map Value (DType → Bool) value_fits o

abbrev layer_of : Value-F Value → Value-F (DType → Bool)
layer_of x = map-Value Value (DType → Bool) value_fits x

pub fits_list : (rs : List (Option Value)) (t : DType) (n : Nullability) → value_fits (Listed rs) (ListType t n) ≡ rows_fit t rs
fits_list rs t n =
    list_step rs (ListType t n) ∙ ap (λ f. f (ListType t n)) (fold-roll-Value (DType → Bool) fits_step (Value-F.List rs))
    ∙ at_list (layer_of (Value-F.List rs)) t n ∙ rows_layer within refl (λ v. refl) t rs

pub fits_fixed : (rs : List (Option Value)) (t : DType) (k : ℕ) (n : Nullability) → value_fits (Listed rs) (FixedSizeList t k n) ≡ (nat_eq (length rs) k && rows_fit t rs)
fits_fixed rs t k n =
    list_step rs (FixedSizeList t k n) ∙ ap (λ f. f (FixedSizeList t k n)) (fold-roll-Value (DType → Bool) fits_step (Value-F.List rs))
    ∙ at_fixed (layer_of (Value-F.List rs)) t k n ∙ (λ i. nat_eq (length_layer within refl (λ v. refl) rs i) k && rows_layer within refl (λ v. refl) t rs i)

pub fits_struct : (rs : List (Option Value)) (fs : Fields) (n : Nullability) → value_fits (Struct rs) (StructType fs n) ≡ each_fits value_fits (out-Fields fs).list rs
fits_struct rs fs n =
    struct_step rs (StructType fs n) ∙ ap (λ f. f (StructType fs n)) (fold-roll-Value (DType → Bool) fits_step (Value-F.Struct rs))
    ∙ at_struct (layer_of (Value-F.Struct rs)) fs n ∙ each_layer within refl (λ v. refl) (out-Fields fs).list rs

and_false : (b : Bool) → false ≡ (b && false)
and_false true = refl
and_false false = refl

pub each_fits_length : {N : Type 0} (fs : List (N × DType)) (rs : List (Option Value)) → length rs ≢ length fs → false ≡ each_fits value_fits fs rs
each_fits_length [] [] h = absurd (h refl)
each_fits_length [] (r ∷ rs) h = refl
each_fits_length (f ∷ fs) [] h = refl
each_fits_length (f ∷ fs) (r ∷ rs) h =
    and_false (option_fits value_fits f.1 r) ∙ ap (λ b. option_fits value_fits f.1 r && b) (each_fits_length fs rs (λ e. h (ap suc e)))

pub digits_fit : (p : ℕ) → p ≤ 38 → 10 ^ p < 2 ^ 128
digits_fit p h = omega (arith, pow-le-pow_right {n = 10} (omega arith) h)
