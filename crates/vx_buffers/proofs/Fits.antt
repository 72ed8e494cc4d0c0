-- Which packed rows fit a type.
use Rattle.std.proofs.Common.{ℕ, zero, suc, ℤ, pos, negsuc, ◌≡◌, ◌<◌, ◌≤◌, ◌+◌, ◌∙◌, ap, sym, refl, arith, Bool, true, false, ◌&&◌, int_le, nat_lt, nat_le, unsigned_abs, List, [], ◌∷◌, length, drop, get_or, map, Option, Some, None}
use Rattle.std.specs.Option.{option_map}
use Rattle.std.specs.List.{list_all}
use Rattle.std.proofs.lemmas.List.{length-map}
use Rattle.std.proofs.lemmas.Bool.Decides.{nat_tests}
use Rattle.vx_rows.specs.declared.dtype.DType.{DType, out-DType}
use Rattle.vx_rows.specs.declared.dtype.DType.TheOpen.{DType-F}
use Rattle.vx_rows.specs.declared.dtype.Fields.{Fields}
use Rattle.vx_rows.specs.declared.value.Value.{Value, Bool as BoolValue, Int, Decimal, Utf8, Binary, fold-roll-Value, roll-Value, map-Value}
use Rattle.vx_rows.specs.declared.value.Value.TheVariants.{rolls-Bool, rolls-Int, rolls-Decimal, rolls-Utf8, rolls-Binary}
use Rattle.vx_rows.specs.declared.value.Value.TheOpen.{Value-F}
use Rattle.vx_rows.specs.Fits.{layer_fits, fits_step, value_fits, row_fits, rows_fit, is_nullable}
use Rattle.vx_rows.specs.Types.{nullability}
use Rattle.vx_buffers.specs.Fits.{layer_is_bool, is_bool, layer_is_text, is_text, layer_is_binary, is_binary, valid_or, layer_range, number_range, layer_bound, decimal_bound, null_or, is_within, is_below}
use Rattle.vx_buffers.specs.Stores.{long_value, bool_rows, text_rows, binary_rows}
use Rattle.vx_buffers.proofs.Rows.{get_rows}

abbrev layer_of : Value-F Value → Value-F (DType → Bool)
layer_of x = map-Value Value (DType → Bool) value_fits x

-- a value by its layer
by_layer : (x : Value-F Value) (t : DType) → value_fits (roll-Value x) t ≡ layer_fits (λ f s. f s) (layer_of x) (out-DType t)
by_layer x t = ap (λ f. f t) (fold-roll-Value (DType → Bool) fits_step x)

-- no number lies in the empty range
above : (n : ℕ) (b : Bool) → false ≡ (b && nat_le (suc n) 0)
above n true = let h : nat_le (suc n) 0 ≡ false = grind (arith, nat_tests) in sym h
above n false = refl

outside : (z : ℤ) → false ≡ (int_le (pos 1) z && int_le z (pos 0))
outside (pos zero) = refl
outside (pos (suc n)) = above n (nat_le 1 (suc n))
outside (negsuc n) = refl

bool_layer : (b : Bool) (y : DType-F DType Fields) → layer_fits (λ f s. f s) (layer_of (Value-F.Bool b)) y ≡ layer_is_bool y
bool_layer b (DType-F.Bool n) = refl
bool_layer b y = refl

int_layer : (z : ℤ) (y : DType-F DType Fields) → layer_fits (λ f s. f s) (layer_of (Value-F.Int z)) y ≡ is_within (layer_range y) z
int_layer z (DType-F.Primitive p n) = refl
int_layer z y = outside z

none_below : (n : ℕ) → false ≡ nat_lt n 0
none_below n = let h : nat_lt n 0 ≡ false = grind (arith, nat_tests) in sym h

decimal_layer : (z : ℤ) (y : DType-F DType Fields) → layer_fits (λ f s. f s) (layer_of (Value-F.Decimal z)) y ≡ is_below (layer_bound y) z
decimal_layer z (DType-F.Decimal d n) = refl
decimal_layer z y = none_below (unsigned_abs z)

text_layer : (s : List ℕ) (y : DType-F DType Fields) → layer_fits (λ f s. f s) (layer_of (Value-F.Utf8 s)) y ≡ layer_is_text y
text_layer s (DType-F.Utf8 n) = refl
text_layer s y = refl

binary_layer : (s : List ℕ) (y : DType-F DType Fields) → layer_fits (λ f s. f s) (layer_of (Value-F.Binary s)) y ≡ layer_is_binary y
binary_layer s (DType-F.Binary n) = refl
binary_layer s y = refl

pub text_fits : (t : DType) (s : List ℕ) → value_fits (Utf8 s) t ≡ is_text t
text_fits t s = ap (λ v. value_fits v t) (sym (rolls-Utf8 s)) ∙ by_layer (Value-F.Utf8 s) t ∙ text_layer s (out-DType t)

pub binary_fits : (t : DType) (s : List ℕ) → value_fits (Binary s) t ≡ is_binary t
binary_fits t s = ap (λ v. value_fits v t) (sym (rolls-Binary s)) ∙ by_layer (Value-F.Binary s) t ∙ binary_layer s (out-DType t)

pub bool_fits : (t : DType) (b : Bool) → value_fits (BoolValue b) t ≡ is_bool t
bool_fits t b = ap (λ v. value_fits v t) (sym (rolls-Bool b)) ∙ by_layer (Value-F.Bool b) t ∙ bool_layer b (out-DType t)

pub int_fits : (t : DType) (z : ℤ) → value_fits (Int z) t ≡ is_within (number_range t) z
int_fits t z = ap (λ v. value_fits v t) (sym (rolls-Int z)) ∙ by_layer (Value-F.Int z) t ∙ int_layer z (out-DType t)

pub decimal_fits : (t : DType) (z : ℤ) → value_fits (Decimal z) t ≡ is_below (decimal_bound t) z
decimal_fits t z = ap (λ v. value_fits v t) (sym (rolls-Decimal z)) ∙ by_layer (Value-F.Decimal z) t ∙ decimal_layer z (out-DType t)

pub long_fits : (t : DType) (n : ℕ) → value_fits (long_value n) t ≡ is_within (number_range t) (pos n)
long_fits t n = int_fits t (pos n)

pub null_or_map : {A B : Type 0} (null : Bool) (test : B → Bool) (f : A → B) (x : Option A) → null_or null test (option_map f x) ≡ null_or null (λ a. test (f a)) x
null_or_map null test f None = refl
null_or_map null test f (Some x) = refl

-- rows of a kind whose values fit alike
module _ (t : DType) {A : Type 0} (f : A → Value) (fits : Bool) (same : (x : A) → value_fits (f x) t ≡ fits) where
  alike : (xs : List (Option A)) → list_all (valid_or (is_nullable (nullability t)) fits) (map (option_map f) xs) ≡ rows_fit t (map (option_map f) xs)
  alike [] = refl
  alike (None ∷ xs) = ap (λ b. is_nullable (nullability t) && b) (alike xs)
  alike (Some x ∷ xs) = λ i. sym (same x) i && alike xs i

pub bools_alike : (t : DType) (xs : List (Option Bool)) → list_all (valid_or (is_nullable (nullability t)) (is_bool t)) (bool_rows xs) ≡ rows_fit t (bool_rows xs)
bools_alike t xs = alike t BoolValue (is_bool t) (bool_fits t) xs

pub texts_alike : (t : DType) (xs : List (Option (List ℕ))) → list_all (valid_or (is_nullable (nullability t)) (is_text t)) (text_rows xs) ≡ rows_fit t (text_rows xs)
texts_alike t xs = alike t Utf8 (is_text t) (text_fits t) xs

pub binaries_alike : (t : DType) (xs : List (Option (List ℕ))) → list_all (valid_or (is_nullable (nullability t)) (is_binary t)) (binary_rows xs) ≡ rows_fit t (binary_rows xs)
binaries_alike t xs = alike t Binary (is_binary t) (binary_fits t) xs

-- a walk over a list whose elements are tested one by one
module _ {X : Type 0} (p : X → Bool) where
  stops_at : (xs : List X) (i : ℕ) (d : X) → i < length xs → p (get_or xs i d) ≡ false → list_all p (drop i xs) ≡ false
  stops_at [] i d h e = absurd (omega arith)
  stops_at (x ∷ xs) zero d h e = ap (λ b. b && list_all p xs) e
  stops_at (x ∷ xs) (suc i) d h e = stops_at xs i d (omega arith) e

  goes_past : (xs : List X) (i : ℕ) (d : X) → i < length xs → p (get_or xs i d) ≡ true → list_all p (drop i xs) ≡ list_all p (drop (suc i) xs)
  goes_past [] i d h e = absurd (omega arith)
  goes_past (x ∷ xs) zero d h e = ap (λ b. b && list_all p xs) e
  goes_past (x ∷ xs) (suc i) d h e = goes_past xs i d (omega arith) e

  ends : (xs : List X) (i : ℕ) → length xs ≤ i → list_all p (drop i xs) ≡ true
  ends [] zero h = refl
  ends [] (suc i) h = refl
  ends (x ∷ xs) zero h = absurd (omega arith)
  ends (x ∷ xs) (suc i) h = ends xs i (omega arith)

-- packed rows `ns` whose values are made by `f`, and fit the type where `test` says so
module _ (t : DType) {A : Type 0} (f : A → Value) (test : A → Bool) (same : (x : A) → value_fits (f x) t ≡ test x) (null : Bool) (nulls : null ≡ is_nullable (nullability t)) where
  abbrev rows : List (Option A) → List (Option Value)
  rows ns = map (option_map f) ns

  row_test : (x : Option A) → row_fits t (option_map f x) ≡ null_or null test x
  row_test None = sym nulls
  row_test (Some x) = same x

  at : (ns : List (Option A)) (i : ℕ) (x : Option A) (fits : Bool) → x ≡ get_or ns i None → fits ≡ null_or null test x → row_fits t (get_or (rows ns) i None) ≡ fits
  at ns i x fits e h = ap (row_fits t) (get_rows f ns i ∙ ap (option_map f) (sym e)) ∙ row_test x ∙ sym h

  length_rows : (ns : List (Option A)) → length (rows ns) ≡ length ns
  length_rows ns = length-map ns (option_map f)

  module _ (ns : List (Option A)) (i : ℕ) (so_far : rows_fit t (rows ns) ≡ rows_fit t (drop i (rows ns))) where
    pub misfit_at : (x : Option A) (fits : Bool) → i < length ns → x ≡ get_or ns i None → fits ≡ null_or null test x → fits ≡ false → false ≡ rows_fit t (rows ns)
    misfit_at x fits h e k misfit =
        let inside : i < length (rows ns) = omega (arith, h, length_rows ns) in
        sym (so_far ∙ stops_at (row_fits t) (rows ns) i None inside (at ns i x fits e k ∙ misfit))

    pub fit_at : (x : Option A) (fits : Bool) → i < length ns → x ≡ get_or ns i None → fits ≡ null_or null test x → fits ≡ true → rows_fit t (rows ns) ≡ rows_fit t (drop (i + 1) (rows ns))
    fit_at x fits h e k fit =
        let inside : i < length (rows ns) = omega (arith, h, length_rows ns) in
        let next : suc i ≡ i + 1 = omega arith in
        so_far ∙ goes_past (row_fits t) (rows ns) i None inside (at ns i x fits e k ∙ fit) ∙ ap (λ k. rows_fit t (drop k (rows ns))) next

    pub all_fit : length ns ≤ i → true ≡ rows_fit t (rows ns)
    all_fit h =
        let past : length (rows ns) ≤ i = omega (arith, h, length_rows ns) in
        sym (so_far ∙ ends (row_fits t) (rows ns) i past)
