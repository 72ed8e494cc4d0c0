-- Rows of the parts of a column fit the column's type.
use Rattle.std.proofs.Common.{arith, refl, sym, ◌∙◌, ap, subst, ◌≡◌, ◌<◌, ◌||◌, ℕ, zero, suc, Bool, true, false, List, [], ◌∷◌, map, length, get_or, IsTrue, Option, Some, None}
use Rattle.std.proofs.lemmas.Bool.{false≢true}
use Rattle.std.proofs.lemmas.List.{length-map, get_or-map}
use Rattle.std.proofs.lemmas.List.Sums.{AllPass-from_list_all}
use Rattle.std.specs.List.{All}
use Rattle.std.specs.Option.{is_some}
use Rattle.vx_rows.specs.Fits.{row_fits, value_fits, fits_step, layer_fits, is_nullable as takes_null}
use Rattle.vx_rows.specs.Types.{AlikeTypes, layer_with, layer_nullability, with_nullability}
use Rattle.vx_rows.specs.declared.kinds.Nullability.{Nullability}
use Rattle.vx_rows.specs.declared.kinds.Nullability.TheVariants.{NonNullable, Nullable}
use Rattle.vx_rows.specs.declared.dtype.DType.{DType, out-DType, out-roll-DType}
use Rattle.vx_rows.specs.declared.dtype.DType.TheOpen.{DType-F}
use Rattle.vx_rows.specs.declared.dtype.Fields.{Fields}
use Rattle.vx_rows.specs.declared.value.Value.{Value, out-Value, roll-out-Value, fold-roll-Value, map-Value}
use Rattle.vx_rows.specs.declared.value.Value.TheOpen.{Value-F}
use Rattle.vx_base.specs.Column.{IsFlat}
use Rattle.vx_lanes.specs.Layouts.{exception_of}
use Rattle.vx_job.specs.Kinds.{is_nullable, some_nullable, nullability_by, interleaved_type, AreAlike}
use Rattle.vx_column.specs.Columns.{type_of, rows_of, IsSound, IsOf}
use Rattle.vx_column.specs.declared.chunked.Chunked.{Chunked}
use Rattle.vx_column.specs.declared.patched.Patched.{Patched}
use Rattle.vx_column.specs.declared.excepted.Excepted.{Excepted}
use Rattle.vx_column.specs.declared.interleave.Interleave.{Interleave}
use Rattle.vx_column.specs.declared.column.Column.{Column}
use Rattle.vx_column.specs.declared.column.Column.TheVariants as column
use Rattle.vx_column.proofs.Layers.{type_patched, type_excepted, type_interleave, chunks_here, lanes_here, exceptions_here, interleaved_here}
use Rattle.vx_column.proofs.LaneRows.{row_null, row_kept, row_replaced, value_stands}
use Rattle.vx_select.specs.Spots.{FitsToo}
use Rattle.vx_select.proofs.Fits.{fits_at}

abbrev layer_of : Value-F Value → Value-F (DType → Bool)
layer_of x = map-Value Value (DType → Bool) value_fits x

fits_layer : (v : Value) (t : DType) → value_fits v t ≡ layer_fits (λ f s. f s) (layer_of (out-Value v)) (out-DType t)
fits_layer v t = ap (λ w. value_fits w t) (sym (roll-out-Value v)) ∙ ap (λ f. f t) (fold-roll-Value (DType → Bool) fits_step (out-Value v))

-- whether a value fits doesn't rest on nullability
layer_same : (n : Nullability) (x : Value-F (DType → Bool)) (y : DType-F DType Fields) → layer_fits (λ f s. f s) x (layer_with n y) ≡ layer_fits (λ f s. f s) x y
layer_same n (Value-F.Bool b) (DType-F.Bool m) = refl
layer_same n (Value-F.Int z) (DType-F.Primitive p m) = refl
layer_same n (Value-F.Decimal z) (DType-F.Decimal d m) = refl
layer_same n (Value-F.Utf8 s) (DType-F.Utf8 m) = refl
layer_same n (Value-F.Binary s) (DType-F.Binary m) = refl
layer_same n (Value-F.List rs) (DType-F.List t m) = refl
layer_same n (Value-F.List rs) (DType-F.FixedSizeList t k m) = refl
layer_same n (Value-F.Struct rs) (DType-F.Struct fs m) = refl
layer_same n x y = refl

alike_fits : (s t : DType) → AlikeTypes s t → (v : Value) → value_fits v s ≡ value_fits v t
alike_fits s t e v =
    let x = layer_of (out-Value v) in
    fits_layer v s ∙ sym (layer_same NonNullable x (out-DType s)) ∙ ap (layer_fits (λ f s. f s) x) e ∙ layer_same NonNullable x (out-DType t) ∙ sym (fits_layer v t)

-- rows of a type fit one like it that takes nulls where it does
alike_too : (s t : DType) → AlikeTypes s t → (IsTrue (is_nullable s) → IsTrue (is_nullable t)) → FitsToo s t
alike_too s t e nulls None h = nulls h
alike_too s t e nulls (Some v) h = sym (alike_fits s t e v) ∙ h

value_too : (s t : DType) → AlikeTypes s t → (row : Option Value) → is_some row ≡ true → IsTrue (row_fits s row) → IsTrue (row_fits t row)
value_too s t e None some h = absurd (false≢true some)
value_too s t e (Some v) some h = sym (alike_fits s t e v) ∙ h

same_too : (s t : DType) → s ≡ t → FitsToo s t
same_too s t e row h = subst (λ (u : DType). IsTrue (row_fits u row)) e h

layer_with_twice : (n : Nullability) (y : DType-F DType Fields) → layer_with NonNullable (layer_with n y) ≡ layer_with NonNullable y
layer_with_twice n (DType-F.Bool m) = refl
layer_with_twice n y = refl

layer_with_null : (n : Nullability) (y : DType-F DType Fields) → layer_nullability (layer_with n y) ≡ n
layer_with_null n (DType-F.Bool m) = refl
layer_with_null n y = refl

-- rows of a type fit one like it with another nullability that takes nulls where it does
pub with_too : (s t : DType) (n : Nullability) → AlikeTypes s t → (IsTrue (is_nullable s) → IsTrue (takes_null n)) → FitsToo s (with_nullability t n)
with_too s t n e nulls =
    let out = out-roll-DType (layer_with n (out-DType t)) in
    alike_too s (with_nullability t n) (e ∙ sym (ap (layer_with NonNullable) out ∙ layer_with_twice n (out-DType t)))
    (λ h. ap takes_null (ap layer_nullability out ∙ layer_with_null n (out-DType t)) ∙ nulls h)

-- rows fit the type that takes nulls too, and so does a null
pub nullable_too : (t : DType) → FitsToo t (with_nullability t Nullable)
nullable_too t = with_too t t Nullable refl (λ h. refl)

pub takes_nulls : (t : DType) → IsTrue (is_nullable (with_nullability t Nullable))
takes_nulls t = ap takes_null (ap layer_nullability (out-roll-DType (layer_with Nullable (out-DType t))) ∙ layer_with_null Nullable (out-DType t))

some_here : (ts : List DType) (k : ℕ) (d : DType) → k < length ts → IsTrue (is_nullable (get_or ts k d)) → IsTrue (some_nullable ts)
some_here [] k d h null = absurd (omega arith)
some_here (t ∷ ts) zero d h null = ap (λ b. b || some_nullable ts) null
some_here (t ∷ ts) (suc k) d h null = or_right (is_nullable t) (some_nullable ts) (some_here ts k d (omega arith) null)
  where
    or_right : (a b : Bool) → b ≡ true → (a || b) ≡ true
    or_right true b e = refl
    or_right false b e = e

by_null : (b : Bool) → b ≡ true → IsTrue (takes_null (nullability_by b))
by_null true e = refl
by_null false e = absurd (false≢true e)

types_too : (ts : List DType) (k : ℕ) (d : DType) → AreAlike ts → k < length ts → FitsToo (get_or ts k d) (interleaved_type ts)
types_too [] k d alike h = absurd (omega arith)
types_too (t ∷ ts) k d alike h =
    with_too (get_or (t ∷ ts) k d) t (nullability_by (some_nullable (t ∷ ts))) (like k h) (λ null. by_null (some_nullable (t ∷ ts)) (some_here (t ∷ ts) k d h null))
  where
    like : (j : ℕ) → j < length (t ∷ ts) → AlikeTypes (get_or (t ∷ ts) j d) t
    like zero below = refl
    like (suc j) below = alike j d (omega arith)

pub chunks_too : (c : Chunked Column) (parts : List Column) (t : DType) → parts ≡ c.chunks → t ≡ c.dtype → IsSound (column.Chunked c) → All (λ part. FitsToo (type_of part) t) parts
chunks_too c parts t same is s = λ k d h.
    let of_type = subst (All (IsOf c.dtype)) (sym same) (chunks_here c s).types in
    same_too (type_of (get_or parts k d)) t (of_type k d h ∙ sym is)

pub values_too : (i : Interleave Column) (parts : List Column) (t : DType) → parts ≡ i.values → t ≡ type_of (column.Interleave i) → IsSound (column.Interleave i) → All (λ part. FitsToo (type_of part) t) parts
values_too i parts t same is s = subst (All (λ part. FitsToo (type_of part) t)) (sym same) each
  where
    each : All (λ part. FitsToo (type_of part) t) i.values
    each k d h =
        let here = interleaved_here i s in
        let types = map type_of i.values in
        let inside : k < length types = omega (arith, length-map i.values type_of) in
        let at : get_or types k t ≡ type_of (get_or i.values k d) = get_or-map type_of i.values k d t h in
        subst (λ (u : DType). FitsToo (type_of (get_or i.values k d)) u) (sym (is ∙ type_interleave i ∙ here.joined))
        (subst (λ (u : DType). FitsToo u (interleaved_type types)) at (types_too types k t here.alike inside))

pub base_too : (x : Excepted Column) (t : DType) → t ≡ type_of (column.Excepted x) → FitsToo (type_of x.base) t
base_too x t is = same_too (type_of x.base) t (sym (is ∙ type_excepted x))

pub exceptions_too : (x : Excepted Column) (t : DType) → t ≡ type_of (column.Excepted x) → IsSound (column.Excepted x) → FitsToo (type_of x.values) t
exceptions_too x t is s =
    let here = exceptions_here x s in
    subst (FitsToo (type_of x.values)) (sym (is ∙ type_excepted x)) (alike_too (type_of x.values) (type_of x.base) here.alike here.nulls)

-- what exceptions by lane leave of a row that fits
pub replaced_fits : (p : Patched Column) (at : ℕ) (row : Option Value) → IsSound (column.Patched p) → IsFlat p.lanes.patch_values → get_or (rows_of p.inner) at None ≡ row → IsTrue (row_fits (type_of p.inner) row) →
    IsTrue (row_fits (type_of (column.Patched p)) (get_or (rows_of (column.Patched p)) at None))
replaced_fits p at row s flat e h =
    subst (λ (t : DType). IsTrue (row_fits t (get_or (rows_of (column.Patched p)) at None))) (sym (type_patched p)) (by_row row e h)
  where
    by_exception : (v : Value) (found : Option ℕ) → exception_of p.lanes at ≡ found → get_or (rows_of p.inner) at None ≡ Some v → IsTrue (row_fits (type_of p.inner) (Some v)) →
        IsTrue (row_fits (type_of p.inner) (get_or (rows_of (column.Patched p)) at None))
    by_exception v None f e h = subst (λ (r : Option Value). IsTrue (row_fits (type_of p.inner) r)) (sym (row_kept p at (Some v) e f)) h
    by_exception v (Some k) f e h =
        let here = lanes_here p s in
        let stands = value_stands p at k s f in
        let value = get_or p.lanes.patch_values.rows k None in
        let valid = AllPass-from_list_all is_some p.lanes.patch_values.rows here.sound.valid k None stands in
        let fits = fits_at p.lanes.patch_values.dtype p.lanes.patch_values.rows k flat stands in
        subst (λ (r : Option Value). IsTrue (row_fits (type_of p.inner) r)) (sym (row_replaced p at k (Some v) e refl f))
        (value_too p.lanes.patch_values.dtype (type_of p.inner) here.alike value valid fits)

    by_row : (r : Option Value) → get_or (rows_of p.inner) at None ≡ r → IsTrue (row_fits (type_of p.inner) r) →
        IsTrue (row_fits (type_of p.inner) (get_or (rows_of (column.Patched p)) at None))
    by_row None e h = subst (λ (r : Option Value). IsTrue (row_fits (type_of p.inner) r)) (sym (row_null p at e)) h
    by_row (Some v) e h = by_exception v (exception_of p.lanes at) refl e h
