-- What rows that fit a type have for keys, and which of them are null.
use Rattle.std.proofs.Common.{ℕ, ℤ, ◌≡◌, ◌∙◌, ap, sym, refl, Bool, true, ◌&&◌, List, [], ◌∷◌, length, map, replicate, Option, Some, None}
use Rattle.std.specs.Option.{is_some}
use Rattle.std.specs.List.{list_all}
use Rattle.std.proofs.lemmas.Bool.{and_parts, false≢true}
use Rattle.vx_rows.specs.Types.{nullability}
use Rattle.vx_rows.specs.Fits.{is_nullable, is_in_range, layer_fits, fits_step, value_fits, row_fits, rows_fit}
use Rattle.vx_rows.specs.declared.kinds.PType.{PType}
use Rattle.vx_rows.specs.declared.kinds.Nullability.{Nullability}
use Rattle.vx_rows.specs.declared.kinds.Nullability.TheVariants.{NonNullable}
use Rattle.vx_rows.specs.declared.dtype.DType.{DType, Primitive, Decimal, Utf8, Binary, out-DType, out-roll-DType}
use Rattle.vx_rows.specs.declared.dtype.DType.TheOpen.{DType-F}
use Rattle.vx_rows.specs.declared.dtype.DType.TheVariants as Types
use Rattle.vx_rows.specs.declared.dtype.Fields.{Fields}
use Rattle.vx_rows.specs.declared.value.Value.{Value, out-Value, roll-out-Value, fold-roll-Value, map-Value}
use Rattle.vx_rows.specs.declared.value.Value.TheOpen.{Value-F}
use Rattle.vx_buffers.specs.Numbers.{row_int, layer_int}
use Rattle.vx_haystack.specs.Keys.{fits_key, of_key, row_decimal, layer_decimal, row_text, layer_text, row_binary, layer_binary}

abbrev applied : (DType → Bool) → DType → Bool
applied f t = f t

abbrev layer_of : Value-F Value → Value-F (DType → Bool)
layer_of x = map-Value Value (DType → Bool) value_fits x

fits_layer : (v : Value) (t : DType) (y : DType-F DType Fields) → out-DType t ≡ y → value_fits v t ≡ layer_fits applied (layer_of (out-Value v)) y
fits_layer v t y e =
    ap (λ w. value_fits w t) (sym (roll-out-Value v)) ∙ ap (λ f. f t) (fold-roll-Value (DType → Bool) fits_step (out-Value v)) ∙ ap (layer_fits applied (layer_of (out-Value v))) e

-- rows that fit have keys that pass, where each value that fits has one
all_keys : {K : Type 0} (test : K → Bool) (key : Option Value → Option K) (t : DType) → ((v : Value) → value_fits v t ≡ true → of_key test (key (Some v)) ≡ true) → (rows : List (Option Value)) → rows_fit t rows ≡ true →
    list_all (fits_key test key) rows ≡ true
all_keys test key t one [] h = refl
all_keys test key t one (None ∷ rows) h = all_keys test key t one rows (and_parts (row_fits t None) (rows_fit t rows) h).1
all_keys test key t one (Some v ∷ rows) h =
    let parts = and_parts (row_fits t (Some v)) (rows_fit t rows) h in
    λ i. one v parts.0 i && all_keys test key t one rows parts.1 i

int_layer : (p : PType) (n : Nullability) (x : Value-F Value) → layer_fits applied (layer_of x) (DType-F.Primitive p n) ≡ true → of_key (is_in_range p) (layer_int x) ≡ true
int_layer p n (Value-F.Int z) h = h
int_layer p n x h = absurd (false≢true h)

decimal_layer : (d : ℕ × ℤ) (n : Nullability) (x : Value-F Value) → layer_fits applied (layer_of x) (DType-F.Decimal d n) ≡ true → of_key (λ z. true) (layer_decimal x) ≡ true
decimal_layer d n (Value-F.Decimal z) h = refl
decimal_layer d n x h = absurd (false≢true h)

text_layer : (n : Nullability) (x : Value-F Value) → layer_fits applied (layer_of x) (DType-F.Utf8 n) ≡ true → of_key (λ z. true) (layer_text x) ≡ true
text_layer n (Value-F.Utf8 s) h = refl
text_layer n x h = absurd (false≢true h)

binary_layer : (n : Nullability) (x : Value-F Value) → layer_fits applied (layer_of x) (DType-F.Binary n) ≡ true → of_key (λ z. true) (layer_binary x) ≡ true
binary_layer n (Value-F.Binary s) h = refl
binary_layer n x h = absurd (false≢true h)

pub int_rows : (t : DType) (p : PType) (n : Nullability) (rows : List (Option Value)) → t ≡ Primitive p n → rows_fit t rows ≡ true → list_all (fits_key (is_in_range p) row_int) rows ≡ true
int_rows t p n rows e h =
    let open_type : out-DType t ≡ DType-F.Primitive p n = ap out-DType (e ∙ sym (Types.rolls-Primitive p n)) ∙ out-roll-DType (DType-F.Primitive p n) in
    all_keys (is_in_range p) row_int t (λ v f. int_layer p n (out-Value v) (sym (fits_layer v t (DType-F.Primitive p n) open_type) ∙ f)) rows h

pub decimal_rows : (t : DType) (d : ℕ × ℤ) (n : Nullability) (rows : List (Option Value)) → t ≡ Decimal d n → rows_fit t rows ≡ true → list_all (fits_key (λ z. true) row_decimal) rows ≡ true
decimal_rows t d n rows e h =
    let open_type : out-DType t ≡ DType-F.Decimal d n = ap out-DType (e ∙ sym (Types.rolls-Decimal d n)) ∙ out-roll-DType (DType-F.Decimal d n) in
    all_keys (λ z. true) row_decimal t (λ v f. decimal_layer d n (out-Value v) (sym (fits_layer v t (DType-F.Decimal d n) open_type) ∙ f)) rows h

pub text_rows : (t : DType) (n : Nullability) (rows : List (Option Value)) → t ≡ Utf8 n → rows_fit t rows ≡ true → list_all (fits_key (λ z. true) row_text) rows ≡ true
text_rows t n rows e h =
    let open_type : out-DType t ≡ DType-F.Utf8 n = ap out-DType (e ∙ sym (Types.rolls-Utf8 n)) ∙ out-roll-DType (DType-F.Utf8 n) in
    all_keys (λ z. true) row_text t (λ v f. text_layer n (out-Value v) (sym (fits_layer v t (DType-F.Utf8 n) open_type) ∙ f)) rows h

pub binary_rows : (t : DType) (n : Nullability) (rows : List (Option Value)) → t ≡ Binary n → rows_fit t rows ≡ true → list_all (fits_key (λ z. true) row_binary) rows ≡ true
binary_rows t n rows e h =
    let open_type : out-DType t ≡ DType-F.Binary n = ap out-DType (e ∙ sym (Types.rolls-Binary n)) ∙ out-roll-DType (DType-F.Binary n) in
    all_keys (λ z. true) row_binary t (λ v f. binary_layer n (out-Value v) (sym (fits_layer v t (DType-F.Binary n) open_type) ∙ f)) rows h

-- of a type without nulls no row is null
pub all_some : (t : DType) (rows : List (Option Value)) → nullability t ≡ NonNullable → rows_fit t rows ≡ true → replicate (length rows) true ≡ map is_some rows
all_some t [] e h = refl
all_some t (None ∷ rows) e h = absurd (false≢true (sym (ap is_nullable e) ∙ (and_parts (row_fits t None) (rows_fit t rows) h).0))
all_some t (Some v ∷ rows) e h = ap (λ bs. true ∷ bs) (all_some t rows e (and_parts (row_fits t (Some v)) (rows_fit t rows) h).1)
