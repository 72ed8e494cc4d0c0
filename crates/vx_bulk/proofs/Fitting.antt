-- Selections of rows that fit are rows that fit.
use Rattle.std.proofs.Common.{ℕ, zero, suc, ◌≡◌, ◌<◌, ◌≤◌, ◌+◌, ◌∙◌, ap, sym, refl, subst, arith, Bool, true, false, cond, ◌&&◌, ◌||◌, List, [], ◌∷◌, ◌++◌, length, get_or, replicate, Option, Some, None}
use Rattle.std.specs.Option.{is_none}
use Rattle.std.specs.List.{All, list_all, list_any, slice_range, flat_map}
use Rattle.std.proofs.lemmas.Bool.{false≢true, and_parts}
use Rattle.std.proofs.lemmas.List.Elements.{All-head, All-tail}
use Rattle.std.proofs.lemmas.List.Folds.{list_all-append}
use Rattle.vx_rows.specs.Types.{layer_with, layer_nullability, with_nullability, nullability}
use Rattle.vx_rows.specs.Fits.{is_nullable, layer_fits, fits_step, value_fits, row_fits, rows_fit}
use Rattle.vx_rows.specs.declared.kinds.Nullability.{Nullability}
use Rattle.vx_rows.specs.declared.kinds.Nullability.TheVariants.{Nullable}
use Rattle.vx_rows.specs.declared.dtype.DType.{DType, out-DType, out-roll-DType}
use Rattle.vx_rows.specs.declared.dtype.DType.TheOpen.{DType-F}
use Rattle.vx_rows.specs.declared.dtype.Fields.{Fields}
use Rattle.vx_rows.specs.declared.value.Value.{Value, out-Value, roll-out-Value, fold-roll-Value, map-Value}
use Rattle.vx_rows.specs.declared.value.Value.TheOpen.{Value-F}
use Rattle.vx_masks.specs.Bits.{kept}
use Rattle.vx_bulk.specs.Selections.{picked_row, picked, picked_at, joined_runs, masked, IsWithin}
use Rattle.vx_bulk.specs.Types.{nullable, taken_type}
use Rattle.vx_base.proofs.Windows.{rows_fit_range}

abbrev applied : (DType → Bool) → DType → Bool
applied f t = f t

abbrev layer_of : Value-F Value → Value-F (DType → Bool)
layer_of x = map-Value Value (DType → Bool) value_fits x

-- a value by its layer
fits_layer : (v : Value) (t : DType) → value_fits v t ≡ layer_fits applied (layer_of (out-Value v)) (out-DType t)
fits_layer v t = ap (λ w. value_fits w t) (sym (roll-out-Value v)) ∙ ap (λ f. f t) (fold-roll-Value (DType → Bool) fits_step (out-Value v))

layer_same : (x : Value-F (DType → Bool)) (n : Nullability) (y : DType-F DType Fields) → layer_fits applied x (layer_with n y) ≡ layer_fits applied x y
layer_same (Value-F.Bool b) n (DType-F.Bool m) = refl
layer_same (Value-F.Int z) n (DType-F.Primitive p m) = refl
layer_same (Value-F.Decimal z) n (DType-F.Decimal d m) = refl
layer_same (Value-F.Utf8 s) n (DType-F.Utf8 m) = refl
layer_same (Value-F.Binary s) n (DType-F.Binary m) = refl
layer_same (Value-F.List rs) n (DType-F.List t m) = refl
layer_same (Value-F.List rs) n (DType-F.FixedSizeList t k m) = refl
layer_same (Value-F.Struct rs) n (DType-F.Struct fs m) = refl
layer_same x n y = refl

-- a value fits whether a null does or not
value_same : (v : Value) (t : DType) (n : Nullability) → value_fits v (with_nullability t n) ≡ value_fits v t
value_same v t n =
    fits_layer v (with_nullability t n) ∙ ap (layer_fits applied (layer_of (out-Value v))) (out-roll-DType (layer_with n (out-DType t)))
    ∙ layer_same (layer_of (out-Value v)) n (out-DType t) ∙ sym (fits_layer v t)

layer_nullable : (n : Nullability) (y : DType-F DType Fields) → layer_nullability (layer_with n y) ≡ n
layer_nullable n (DType-F.Bool m) = refl
layer_nullable n (DType-F.Primitive p m) = refl
layer_nullable n (DType-F.Decimal d m) = refl
layer_nullable n (DType-F.Utf8 m) = refl
layer_nullable n (DType-F.Binary m) = refl
layer_nullable n (DType-F.List t m) = refl
layer_nullable n (DType-F.FixedSizeList t k m) = refl
layer_nullable n (DType-F.Struct fs m) = refl

null_fits : (t : DType) → row_fits (nullable t) None ≡ true
null_fits t = ap is_nullable (ap layer_nullability (out-roll-DType (layer_with Nullable (out-DType t))) ∙ layer_nullable Nullable (out-DType t))

row_fits_wider : (t : DType) (r : Option Value) → row_fits t r ≡ true → row_fits (nullable t) r ≡ true
row_fits_wider t None h = null_fits t
row_fits_wider t (Some v) h = value_same v t Nullable ∙ h

abbrev first : (p : Option Value → Bool) (r : Option Value) (rs : List (Option Value)) → list_all p (r ∷ rs) ≡ true → p r ≡ true
first p r rs h = (and_parts (p r) (list_all p rs) h).0

abbrev others : (p : Option Value → Bool) (r : Option Value) (rs : List (Option Value)) → list_all p (r ∷ rs) ≡ true → list_all p rs ≡ true
others p r rs h = (and_parts (p r) (list_all p rs) h).1

fits_at : (t : DType) (rows : List (Option Value)) (i : ℕ) → rows_fit t rows ≡ true → i < length rows → row_fits t (get_or rows i None) ≡ true
fits_at t [] i h k = absurd (omega arith)
fits_at t (r ∷ rows) zero h k = first (row_fits t) r rows h
fits_at t (r ∷ rows) (suc i) h k = fits_at t rows i (others (row_fits t) r rows h) (omega arith)

pub fits_kept : (t : DType) (rows : List (Option Value)) (bits : List Bool) → rows_fit t rows ≡ true → rows_fit t (kept rows bits) ≡ true
fits_kept t [] bits h = refl
fits_kept t (r ∷ rows) [] h = refl
fits_kept t (r ∷ rows) (true ∷ bits) h = λ i. first (row_fits t) r rows h i && fits_kept t rows bits (others (row_fits t) r rows h) i
fits_kept t (r ∷ rows) (false ∷ bits) h = fits_kept t rows bits (others (row_fits t) r rows h)

pub fits_picked_at : (t : DType) (rows : List (Option Value)) (places : List ℕ) → rows_fit t rows ≡ true → All (λ place. place < length rows) places → rows_fit t (picked_at rows places) ≡ true
fits_picked_at t rows [] h all = refl
fits_picked_at t rows (place ∷ places) h all =
    let here = All-head (λ (place : ℕ). place < length rows) place places all in
    let rest = All-tail (λ (place : ℕ). place < length rows) place places all in
    λ i. fits_at t rows place h here i && fits_picked_at t rows places h rest i

-- with nulls for absent places, in the wider type
pub fits_picked_wider : (t : DType) (rows : List (Option Value)) (places : List (Option ℕ)) → rows_fit t rows ≡ true → All (IsWithin (length rows)) places → rows_fit (nullable t) (picked rows places) ≡ true
fits_picked_wider t rows [] h all = refl
fits_picked_wider t rows (None ∷ places) h all =
    let rest = All-tail (IsWithin (length rows)) None places all in
    λ i. null_fits t i && fits_picked_wider t rows places h rest i
fits_picked_wider t rows (Some place ∷ places) h all =
    let here = All-head (IsWithin (length rows)) (Some place) places all in
    let rest = All-tail (IsWithin (length rows)) (Some place) places all in
    λ i. row_fits_wider t (get_or rows place None) (fits_at t rows place h here) i && fits_picked_wider t rows places h rest i

pub fits_picked : (t : DType) (rows : List (Option Value)) (places : List (Option ℕ)) → rows_fit t rows ≡ true → All (IsWithin (length rows)) places → list_any is_none places ≡ false → rows_fit t (picked rows places) ≡ true
fits_picked t rows [] h all present = refl
fits_picked t rows (None ∷ places) h all present = absurd (false≢true (sym present))
fits_picked t rows (Some place ∷ places) h all present =
    let here = All-head (IsWithin (length rows)) (Some place) places all in
    let rest = All-tail (IsWithin (length rows)) (Some place) places all in
    λ i. fits_at t rows place h here i && fits_picked t rows places h rest present i

pub fits_joined : (t : DType) (front more : List (Option Value)) → rows_fit t front ≡ true → rows_fit t more ≡ true → rows_fit t (front ++ more) ≡ true
fits_joined t front more h k = list_all-append (row_fits t) front more ∙ (λ i. h i && k i)

pub fits_runs : (t : DType) (rows : List (Option Value)) (runs : List (ℕ × ℕ)) → rows_fit t rows ≡ true → rows_fit t (joined_runs rows runs) ≡ true
fits_runs t rows [] h = refl
fits_runs t rows (run ∷ runs) h =
    fits_joined t (slice_range rows run.0 (run.0 + run.1)) (joined_runs rows runs) (rows_fit_range t rows run.0 (run.0 + run.1) h) (fits_runs t rows runs h)

pub fits_masked : (t : DType) (rows : List (Option Value)) (bits : List Bool) → rows_fit t rows ≡ true → rows_fit (nullable t) (masked rows bits) ≡ true
fits_masked t [] bits h = refl
fits_masked t (r ∷ rows) [] h = refl
fits_masked t (r ∷ rows) (true ∷ bits) h = λ i. row_fits_wider t r (first (row_fits t) r rows h) i && fits_masked t rows bits (others (row_fits t) r rows h) i
fits_masked t (r ∷ rows) (false ∷ bits) h = λ i. null_fits t i && fits_masked t rows bits (others (row_fits t) r rows h) i

-- the row that is repeated fits, where it is one of the rows
pub fits_repeated : (t : DType) (rows : List (Option Value)) (row : Option Value) (n : ℕ) → rows_fit t rows ≡ true → rows ≡ replicate n row → 0 < n → row_fits t row ≡ true
fits_repeated t rows row zero h e some = absurd (omega arith)
fits_repeated t rows row (suc n) h e some = first (row_fits t) row (replicate n row) (ap (rows_fit t) (sym e) ∙ h)
