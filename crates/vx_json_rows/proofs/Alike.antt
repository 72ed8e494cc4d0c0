-- Rows that are packed as they are read are those that fit their type.
use Rattle.std.proofs.Common.{◌≡◌, List, Bool, true, false, Option, Some, None, option_map, refl, sym, ap, ◌∙◌}
use Rattle.std.specs.Prelude.{if◌then◌else◌, ◌&&◌, is_some, ℕ, ℤ, ◌^◌}
use Rattle.serde_json.specs.Data.{Data, null, boolean, number, string, array, object}
use Rattle.serde_json.specs.Find.{as_null, as_bool, as_str}
use Rattle.vx_rows.specs.Fits.{value_fits, is_nullable, ptype_min, ptype_max}
use Rattle.vx_rows.specs.Types.{nullability, layer_nullability}
use Rattle.vx_rows.specs.declared.dtype.DType.{DType, Bool as BoolType, Primitive, Decimal as DecimalType, Utf8 as Utf8Type, Binary as BinaryType, out-DType, roll-DType, out-roll-DType}
use Rattle.vx_rows.specs.declared.dtype.DType.TheVariants as Types
use Rattle.vx_rows.specs.declared.dtype.DType.TheOpen.{DType-F}
use Rattle.vx_rows.specs.declared.dtype.Fields.{Fields}
use Rattle.vx_rows.specs.declared.kinds.Nullability.{Nullability}
use Rattle.vx_rows.specs.declared.kinds.PType.{PType}
use Rattle.vx_rows.specs.declared.value.Value.{Value, Bool as BoolValue, Int, Decimal, Utf8, Binary}
use Rattle.vx_buffers.proofs.Fits.{int_fits, bool_fits, text_fits, decimal_fits, binary_fits}
use Rattle.vx_buffers.specs.Fits.{is_within, layer_range, layer_is_bool, layer_is_text, layer_is_binary, layer_bound, is_below}
use Rattle.vx_json_rows.specs.Forms.{◌>>=◌, list_of, integer_of}
use Rattle.vx_json_rows.specs.Rows.{layer_value, value_of, fitted_row, fitting_row}
use Rattle.vx_json_rows.specs.Packed.{value_or_null, ranged_row, truth_row, text_row, written_or_null, decimal_below, binary_written, decimal_row, bytes_row}
use Rattle.vx_json_rows.specs.Texts.{unscaled_of, bytes_of}

-- values that `f` makes of what `raw` reads, and that fit the type where `test` says so
module _ (t : DType) {A : Type 0} (f : A → Value) (raw : Data → Option A) (test : A → Bool)
    (same : (a : A) → value_fits (f a) t ≡ test a) (values : (d : Data) → value_of t d ≡ (raw d >>= λ a. Some (f a)))
    (unread : raw null ≡ None) (null_fits : Bool) (nulls : null_fits ≡ is_nullable (nullability t)) where
  kept : Option A → Option A
  kept o = o >>= λ a. if test a then Some a else None

  one_value : (b : Bool) (a : A) (d : Data) → is_some (as_null d) ≡ false
      → value_or_null null_fits (option_map f (if b then Some a else None)) d ≡ (if b then Some (Some (f a)) else None)
  one_value true a d h = refl
  one_value false a d h = ap (λ (b : Bool). if b && null_fits then Some None else None) h

  value_kept : (o : Option A) (d : Data) → is_some (as_null d) ≡ false
      → value_or_null null_fits (option_map f (kept o)) d
      ≡ (((o >>= λ a. Some (f a)) >>= λ v. Some (Some v)) >>= fitted_row t)
  unfolding kept
  value_kept None d h = ap (λ (b : Bool). if b && null_fits then Some None else None) h
  value_kept (Some a) d h = one_value (test a) a d h
      ∙ ap (λ (b : Bool). if b then Some (Some (f a)) else None) (sym (same a))

  no_null : (d : Data) → is_some (as_null d) ≡ false
      → value_or_null null_fits (option_map f (kept (raw d))) d ≡ ((value_of t d >>= λ v. Some (Some v)) >>= fitted_row t)
  no_null d h = value_kept (raw d) d h ∙ ap (λ o. (o >>= λ v. Some (Some v)) >>= fitted_row t) (sym (values d))

  a_null : value_or_null null_fits (option_map f (kept (raw null))) null ≡ fitted_row t None
  unfolding kept
  a_null = ap (λ o. value_or_null null_fits (option_map f (kept o)) null) unread
      ∙ ap (λ (b : Bool). if b then Some None else None) nulls

  alike : (d : Data) → value_or_null null_fits (option_map f (kept (raw d))) d ≡ fitting_row t d
  alike null = a_null
  alike (boolean b) = no_null (boolean b) refl
  alike (number m) = no_null (number m) refl
  alike (string s) = no_null (string s) refl
  alike (array ds) = no_null (array ds) refl
  alike (object ms) = no_null (object ms) refl

  pub lists_alike : (d : Data)
      → list_of (λ e. value_or_null null_fits (option_map f (raw e >>= λ a. if test a then Some a else None)) e) d ≡ list_of (fitting_row t) d
  unfolding kept
  lists_alike d = ap (λ g. list_of g d) (λ i e. alike e i)

opened : (t u : DType) (y : DType-F DType Fields) → t ≡ u → roll-DType y ≡ u → out-DType t ≡ y
opened t u y is rolls = ap out-DType (is ∙ sym rolls) ∙ out-roll-DType y

nulls_by : (t : DType) (y : DType-F DType Fields) (null_fits : Bool) → out-DType t ≡ y → null_fits ≡ is_nullable (layer_nullability y)
    → null_fits ≡ is_nullable (nullability t)
nulls_by t y null_fits is nulls = nulls ∙ sym (ap (λ z. is_nullable (layer_nullability z)) is)

-- rows of an integer type
pub ranged_rows : (t : DType) (p : PType) (n : Nullability) (null_fits : Bool) → t ≡ Primitive p n → null_fits ≡ is_nullable n
    → (d : Data) → list_of (ranged_row (ptype_min p, ptype_max p) null_fits) d ≡ list_of (fitting_row t) d
ranged_rows t p n null_fits is nulls d =
    let y = DType-F.Primitive p n in
    let layer = opened t (Primitive p n) y is (Types.rolls-Primitive p n) in
    lists_alike t Int integer_of (is_within (ptype_min p, ptype_max p))
    (λ z. int_fits t z ∙ ap (λ x. is_within (layer_range x) z) layer)
    (λ e. ap (λ x. layer_value x e) layer)
    refl null_fits (nulls_by t y null_fits layer nulls) d

-- values that all fit
all_kept : {A : Type 0} (o : Option A) → o ≡ (o >>= λ a. if true then Some a else None)
all_kept None = refl
all_kept (Some a) = refl

-- rows of a type of booleans
pub truth_rows : (t : DType) (n : Nullability) (null_fits : Bool) → t ≡ BoolType n → null_fits ≡ is_nullable n
    → (d : Data) → list_of (truth_row null_fits) d ≡ list_of (fitting_row t) d
truth_rows t n null_fits is nulls d =
    let y = DType-F.Bool n in
    let layer = opened t (BoolType n) y is (Types.rolls-Bool n) in
    ap (λ g. list_of g d) (λ i e. value_or_null null_fits (option_map BoolValue (all_kept (as_bool e) i)) e)
    ∙ lists_alike t BoolValue as_bool (λ b. true)
    (λ b. bool_fits t b ∙ ap layer_is_bool layer)
    (λ e. ap (λ x. layer_value x e) layer)
    refl null_fits (nulls_by t y null_fits layer nulls) d

-- rows of a type of texts
pub text_rows : (t : DType) (n : Nullability) (null_fits : Bool) → t ≡ Utf8Type n → null_fits ≡ is_nullable n
    → (d : Data) → list_of (text_row null_fits) d ≡ list_of (fitting_row t) d
text_rows t n null_fits is nulls d =
    let y = DType-F.Utf8 n in
    let layer = opened t (Utf8Type n) y is (Types.rolls-Utf8 n) in
    ap (λ g. list_of g d) (λ i e. value_or_null null_fits (option_map Utf8 (all_kept (as_str e) i)) e)
    ∙ lists_alike t Utf8 as_str (λ s. true)
    (λ s. text_fits t s ∙ ap layer_is_text layer)
    (λ e. ap (λ x. layer_value x e) layer)
    refl null_fits (nulls_by t y null_fits layer nulls) d

-- values that texts write, by `g`, of which `f` reads those that fit
module _ (t : DType) (f g : List ℕ → Option Value) (values : (d : Data) → value_of t d ≡ (as_str d >>= g))
    (fits : (s : List ℕ) → (f s >>= λ v. Some (Some v)) ≡ ((g s >>= λ v. Some (Some v)) >>= fitted_row t))
    (null_fits : Bool) (nulls : null_fits ≡ is_nullable (nullability t)) where
  written : (o : Option (List ℕ)) (d : Data) → is_some (as_null d) ≡ false
      → written_or_null null_fits f o d ≡ (((o >>= g) >>= λ v. Some (Some v)) >>= fitted_row t)
  written None d h = ap (λ (b : Bool). if b && null_fits then Some None else None) h
  written (Some s) d h = fits s

  is_written : (d : Data) → is_some (as_null d) ≡ false
      → written_or_null null_fits f (as_str d) d ≡ ((value_of t d >>= λ v. Some (Some v)) >>= fitted_row t)
  is_written d h = written (as_str d) d h ∙ ap (λ o. (o >>= λ v. Some (Some v)) >>= fitted_row t) (sym (values d))

  same_row : (d : Data) → written_or_null null_fits f (as_str d) d ≡ fitting_row t d
  same_row null = ap (λ (b : Bool). if b then Some None else None) nulls
  same_row (boolean b) = is_written (boolean b) refl
  same_row (number m) = is_written (number m) refl
  same_row (string s) = is_written (string s) refl
  same_row (array ds) = is_written (array ds) refl
  same_row (object ms) = is_written (object ms) refl

  pub lists_written : (d : Data) → list_of (λ e. written_or_null null_fits f (as_str e) e) d ≡ list_of (fitting_row t) d
  lists_written d = ap (λ r. list_of r d) (λ i e. same_row e i)

below_kept : (b : Bool) (z : ℤ) → ((if b then Some (Decimal z) else None) >>= λ v. Some (Some v)) ≡ (if b then Some (Some (Decimal z)) else None)
below_kept true z = refl
below_kept false z = refl

decimal_fitted : (t : DType) (bound : ℕ) (o : Option ℤ) → ((z : ℤ) → value_fits (Decimal z) t ≡ is_below bound z)
    → ((o >>= λ z. if is_below bound z then Some (Decimal z) else None) >>= λ v. Some (Some v))
    ≡ (((o >>= λ z. Some (Decimal z)) >>= λ v. Some (Some v)) >>= fitted_row t)
decimal_fitted t bound None same = refl
decimal_fitted t bound (Some z) same = below_kept (is_below bound z) z
    ∙ ap (λ (b : Bool). if b then Some (Some (Decimal z)) else None) (sym (same z))

-- rows of a type of decimals
pub decimals_alike : (t : DType) (p : ℕ × ℤ) (n : Nullability) (null_fits : Bool) → t ≡ DecimalType p n → null_fits ≡ is_nullable n
    → (d : Data) → list_of (decimal_row (10 ^ p.0) null_fits) d ≡ list_of (fitting_row t) d
decimals_alike t p n null_fits is nulls d =
    let y = DType-F.Decimal p n in
    let layer = opened t (DecimalType p n) y is (Types.rolls-Decimal p n) in
    lists_written t (decimal_below (10 ^ p.0)) (λ s. unscaled_of s >>= λ z. Some (Decimal z))
    (λ e. ap (λ x. layer_value x e) layer)
    (λ s. decimal_fitted t (10 ^ p.0) (unscaled_of s) (λ z. decimal_fits t z ∙ ap (λ x. is_below (layer_bound x) z) layer))
    null_fits (nulls_by t y null_fits layer nulls) d

binary_fitted : (t : DType) (o : Option (List ℕ)) → ((bytes : List ℕ) → value_fits (Binary bytes) t ≡ true)
    → ((o >>= λ bytes. Some (Binary bytes)) >>= λ v. Some (Some v))
    ≡ (((o >>= λ bytes. Some (Binary bytes)) >>= λ v. Some (Some v)) >>= fitted_row t)
binary_fitted t None same = refl
binary_fitted t (Some bytes) same = ap (λ (b : Bool). if b then Some (Some (Binary bytes)) else None) (sym (same bytes))

-- rows of a type of byte strings
pub bytes_alike : (t : DType) (n : Nullability) (null_fits : Bool) → t ≡ BinaryType n → null_fits ≡ is_nullable n
    → (d : Data) → list_of (bytes_row null_fits) d ≡ list_of (fitting_row t) d
bytes_alike t n null_fits is nulls d =
    let y = DType-F.Binary n in
    let layer = opened t (BinaryType n) y is (Types.rolls-Binary n) in
    lists_written t binary_written binary_written
    (λ e. ap (λ x. layer_value x e) layer)
    (λ s. binary_fitted t (bytes_of s) (λ bytes. binary_fits t bytes ∙ ap layer_is_binary layer))
    null_fits (nulls_by t y null_fits layer nulls) d
