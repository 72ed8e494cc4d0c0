-- The rows of a column fit its type.
use Rattle.std.proofs.Common.{arith, refl, sym, ◌∙◌, ap, subst, ◌≡◌, ◌<◌, ◌||◌, ℕ, zero, suc, Bool, true, false, List, [], ◌∷◌, map, length, get_or, IsTrue, Option, Some, None}
use Rattle.std.proofs.lemmas.Bool.{and_from, false≢true}
use Rattle.std.proofs.lemmas.List.{length-map, get_or-map, get_or_default}
use Rattle.std.proofs.lemmas.List.Elements.{recursion_from_All}
use Rattle.std.proofs.lemmas.List.Folds.{list_all-append}
use Rattle.std.proofs.lemmas.List.Sums.{AllPass-from_list_all, list_all-from_AllPass}
use Rattle.std.specs.List.{All, AllByRecursion}
use Rattle.std.specs.Option.{is_some}
use Rattle.vx_rows.specs.Fits.{row_fits, rows_fit, is_nullable as takes_null}
use Rattle.vx_rows.specs.Types.{AlikeTypes, with_nullability}
use Rattle.vx_rows.specs.declared.kinds.Nullability.{Nullability}
use Rattle.vx_rows.specs.declared.dtype.DType.{DType}
use Rattle.vx_rows.specs.declared.value.Value.{Value}
use Rattle.vx_base.specs.Column.{IsFlat}
use Rattle.vx_search.specs.declared.result.SearchResult.{SearchResult}
use Rattle.vx_search.specs.declared.result.SearchResult.TheVariants.{Found, NotFound}
use Rattle.vx_patches.specs.Places.{rows_of as places_of}
use Rattle.vx_patches.specs.Search.{place_among}
use Rattle.vx_lanes.specs.Layouts.{exception_of}
use Rattle.vx_interleave.specs.Selections.{array_of, row_of}
use Rattle.vx_job.specs.Rows.{Rows, joined}
use Rattle.vx_job.specs.Kinds.{is_nullable, some_nullable, nullability_by, interleaved_type, AreAlike}
use Rattle.vx_scalars.proofs.Types.{nullability_with, value_fits_with, value_fits_alike}
use Rattle.vx_column.specs.Columns.{type_of, rows_of, len_of, IsSound, IsOf}
use Rattle.vx_column.specs.declared.chunked.Chunked.{Chunked}
use Rattle.vx_column.specs.declared.patched.Patched.{Patched}
use Rattle.vx_column.specs.declared.excepted.Excepted.{Excepted}
use Rattle.vx_column.specs.declared.interleave.Interleave.{Interleave}
use Rattle.vx_column.specs.declared.column.Column.{Column}
use Rattle.vx_column.specs.declared.column.Column.TheVariants as column
use Rattle.vx_column.proofs.Excepts.{row_found, row_missing}
use Rattle.vx_column.proofs.Interleaves.{row_named, value_named}
use Rattle.vx_column.proofs.LaneRows.{row_null, row_kept, row_replaced, value_stands, len_patched}
use Rattle.vx_column.proofs.Layers.{type_flat, rows_flat, type_chunked, rows_chunked, type_patched, type_excepted, type_interleave, chunks_here, lanes_here, exceptions_here, interleaved_here}

-- the rows of a column fit its type
abbrev pub RowsFit : Column → Type 0
RowsFit x = IsTrue (rows_fit (type_of x) (rows_of x))

fit_as : (x : Column) (t : DType) (rows : Rows) → type_of x ≡ t → rows_of x ≡ rows → IsTrue (rows_fit t rows) → RowsFit x
fit_as x t rows e f h = subst (λ (u : DType). IsTrue (rows_fit u (rows_of x))) (sym e) (subst (λ (r : Rows). IsTrue (rows_fit t r)) (sym f) h)

-- each row fits, and so do all
each_row : (t : DType) (rows : Rows) → ((k : ℕ) → k < length rows → IsTrue (row_fits t (get_or rows k None))) → IsTrue (rows_fit t rows)
each_row t rows each =
    list_all-from_AllPass (row_fits t) rows (λ k d within. subst (λ (r : Option Value). IsTrue (row_fits t r)) (get_or_default rows k None d within) (each k within))

fits_at : (t : DType) (rows : Rows) (k : ℕ) → IsTrue (rows_fit t rows) → k < length rows → IsTrue (row_fits t (get_or rows k None))
fits_at t rows k h within = AllPass-from_list_all (row_fits t) rows h k None within

-- a row of a type fits one like it that takes nulls where it does
with_too : (s t : DType) (n : Nullability) (row : Option Value) → AlikeTypes s t → (IsTrue (is_nullable s) → IsTrue (takes_null n)) → IsTrue (row_fits s row) →
    IsTrue (row_fits (with_nullability t n) row)
with_too s t n None e nulls h = ap takes_null (nullability_with t n) ∙ nulls h
with_too s t n (Some v) e nulls h = value_fits_with v t n ∙ sym (value_fits_alike v s t e) ∙ h

alike_too : (s t : DType) (row : Option Value) → AlikeTypes s t → (IsTrue (is_nullable s) → IsTrue (is_nullable t)) → IsTrue (row_fits s row) → IsTrue (row_fits t row)
alike_too s t None e nulls h = nulls h
alike_too s t (Some v) e nulls h = sym (value_fits_alike v s t e) ∙ h

value_too : (s t : DType) (row : Option Value) → AlikeTypes s t → is_some row ≡ true → IsTrue (row_fits s row) → IsTrue (row_fits t row)
value_too s t None e some h = absurd (false≢true some)
value_too s t (Some v) e some h = sym (value_fits_alike v s t e) ∙ h

pub flat_fits : (x : Column) (rows : _) → x ≡ column.Flat rows → IsFlat rows → RowsFit x
flat_fits x rows e h = subst RowsFit (sym e) (fit_as (column.Flat rows) rows.dtype rows.rows (type_flat rows) (rows_flat rows) h)

joined_fit : (t : DType) (xs : List Column) → AllByRecursion (IsOf t) xs → AllByRecursion RowsFit xs → IsTrue (rows_fit t (joined (map rows_of xs)))
joined_fit t [] of fit = refl
joined_fit t (x ∷ xs) of fit =
    let here : IsTrue (rows_fit t (rows_of x)) = subst (λ (u : DType). IsTrue (rows_fit u (rows_of x))) of.0 fit.0 in
    list_all-append (row_fits t) (rows_of x) (joined (map rows_of xs)) ∙ and_from (rows_fit t (rows_of x)) (rows_fit t (joined (map rows_of xs))) here (joined_fit t xs of.1 fit.1)

pub chunks_fit : (c : Chunked Column) → IsSound (column.Chunked c) → All RowsFit c.chunks → RowsFit (column.Chunked c)
chunks_fit c s fit =
    fit_as (column.Chunked c) c.dtype (joined (map rows_of c.chunks)) (type_chunked c) (rows_chunked c)
    (joined_fit c.dtype c.chunks (recursion_from_All (IsOf c.dtype) c.chunks (chunks_here c s).types) (recursion_from_All RowsFit c.chunks fit))

-- an exception by lane is a value that fits the inner column's type
pub lanes_fit : (p : Patched Column) → IsSound (column.Patched p) → IsFlat p.lanes.patch_values → RowsFit p.inner → RowsFit (column.Patched p)
lanes_fit p s flat fit =
    fit_as whole t (rows_of whole) (type_patched p) refl
    (each_row t (rows_of whole) (λ at h. by_row at (get_or (rows_of p.inner) at None) refl (fits_at t (rows_of p.inner) at fit (omega (arith, len_patched p)))))
  where
    whole : Column
    whole = column.Patched p

    t : DType
    t = type_of p.inner

    by_exception : (at : ℕ) (v : Value) (found : Option ℕ) → exception_of p.lanes at ≡ found → get_or (rows_of p.inner) at None ≡ Some v → IsTrue (row_fits t (Some v)) →
        IsTrue (row_fits t (get_or (rows_of whole) at None))
    by_exception at v None f e h = subst (λ (r : Option Value). IsTrue (row_fits t r)) (sym (row_kept p at (Some v) e f)) h
    by_exception at v (Some k) f e h =
        let here = lanes_here p s in
        let stands = value_stands p at k s f in
        let value = get_or p.lanes.patch_values.rows k None in
        let valid = AllPass-from_list_all is_some p.lanes.patch_values.rows here.sound.valid k None stands in
        let fits = fits_at p.lanes.patch_values.dtype p.lanes.patch_values.rows k flat stands in
        subst (λ (r : Option Value). IsTrue (row_fits t r)) (sym (row_replaced p at k (Some v) e refl f))
        (value_too p.lanes.patch_values.dtype t value here.alike valid fits)

    by_row : (at : ℕ) (r : Option Value) → get_or (rows_of p.inner) at None ≡ r → IsTrue (row_fits t r) → IsTrue (row_fits t (get_or (rows_of whole) at None))
    by_row at None e h = subst (λ (r : Option Value). IsTrue (row_fits t r)) (sym (row_null p at e)) h
    by_row at (Some v) e h = by_exception at v (exception_of p.lanes at) refl e h

pub exceptions_fit : (x : Excepted Column) → IsSound (column.Excepted x) → RowsFit x.base → RowsFit x.values → RowsFit (column.Excepted x)
exceptions_fit x s base values =
    fit_as whole t (rows_of whole) (type_excepted x) refl (each_row t (rows_of whole) (λ at h. by_place at (place_among (places_of x.index) at) h refl))
  where
    whole : Column
    whole = column.Excepted x

    t : DType
    t = type_of x.base

    by_place : (at : ℕ) (place : SearchResult) → at < length (rows_of whole) → place_among (places_of x.index) at ≡ place → IsTrue (row_fits t (get_or (rows_of whole) at None))
    by_place at (Found k) h e =
        let here = exceptions_here x s in
        let found = row_found x at k s h e in
        subst (λ (r : Option Value). IsTrue (row_fits t r)) (sym found.1)
        (alike_too (type_of x.values) t (get_or (rows_of x.values) k None) here.alike here.nulls (fits_at (type_of x.values) (rows_of x.values) k values found.0))
    by_place at (NotFound p) h e =
        let missing = row_missing x at p s h e in
        subst (λ (r : Option Value). IsTrue (row_fits t r)) (sym missing.1) (fits_at t (rows_of x.base) at base missing.0)

some_here : (ts : List DType) (k : ℕ) (d : DType) → k < length ts → IsTrue (is_nullable (get_or ts k d)) → IsTrue (some_nullable ts)
some_here [] k d h null = absurd (omega arith)
some_here (t ∷ ts) zero d h null = ap (λ b. b || some_nullable ts) null
some_here (t ∷ ts) (suc k) d h null = or_right (is_nullable t) (some_nullable ts) (some_here ts k d (omega arith) null)
  where
    or_right : (a b : Bool) → b ≡ true → (a || b) ≡ true
    or_right true b e = refl
    or_right false b e = e

by_null : (b : Bool) → b ≡ true → IsTrue (takes_null (nullability_by b))
by_null true e = refl
by_null false e = absurd (false≢true e)

-- a row of one of the types fits the type that they are interleaved to
interleaved_too : (ts : List DType) (k : ℕ) (d : DType) (row : Option Value) → AreAlike ts → k < length ts → IsTrue (row_fits (get_or ts k d) row) → IsTrue (row_fits (interleaved_type ts) row)
interleaved_too [] k d row alike h fits = absurd (omega arith)
interleaved_too (t ∷ ts) k d row alike h fits =
    with_too (get_or (t ∷ ts) k d) t (nullability_by (some_nullable (t ∷ ts))) row (like k h) (λ null. by_null (some_nullable (t ∷ ts)) (some_here (t ∷ ts) k d h null)) fits
  where
    like : (j : ℕ) → j < length (t ∷ ts) → AlikeTypes (get_or (t ∷ ts) j d) t
    like zero below = refl
    like (suc j) below = alike j d (omega arith)

pub interleaved_fit : (i : Interleave Column) → IsSound (column.Interleave i) → All RowsFit i.values → RowsFit (column.Interleave i)
interleaved_fit i s fit =
    fit_as whole t (rows_of whole) (type_interleave i ∙ (interleaved_here i s).joined) refl (each_row t (rows_of whole) row)
  where
    whole : Column
    whole = column.Interleave i

    t : DType
    t = interleaved_type (map type_of i.values)

    row : (at : ℕ) → at < length (rows_of whole) → IsTrue (row_fits t (get_or (rows_of whole) at None))
    row at h =
        let here = interleaved_here i s in
        let named = value_named i at s h in
        let a = array_of i.selectors at in
        let r = row_of i.selectors at in
        let there : a < length i.values = named.1 in
        let x = get_or i.values a whole in
        let inside : r < len_of x = subst (λ n. r < n) (get_or-map len_of i.values a whole 0 there) named.2 in
        let is = row_named i at here.sound named.0 ∙ ap (λ (rows : Rows). get_or rows r None) (get_or-map rows_of i.values a whole [] there) in
        let own = fits_at (type_of x) (rows_of x) r (fit a whole there) inside in
        let same : get_or (map type_of i.values) a t ≡ type_of x = get_or-map type_of i.values a whole t there in
        subst (λ (v : Option Value). IsTrue (row_fits t v)) (sym is)
        (interleaved_too (map type_of i.values) a t (get_or (rows_of x) r None) here.alike (omega (arith, length-map i.values type_of))
        (subst (λ (u : DType). IsTrue (row_fits u (get_or (rows_of x) r None))) (sym same) own))
