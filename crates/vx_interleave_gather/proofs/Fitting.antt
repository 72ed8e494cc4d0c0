-- Rows that selectors name fit the joined type.
use Rattle.std.proofs.Common.{ℕ, zero, suc, ◌≡◌, ◌<◌, ◌≤◌, ◌+◌, ◌∙◌, ap, sym, refl, subst, arith, take, inl, inr, Bool, true, false, ◌&&◌, ◌||◌, List, [], ◌∷◌, length, get_or, slice_index, map, Option, Some, None}
use Rattle.std.specs.List.{All, list_all}
use Rattle.std.proofs.lemmas.Bool.{cases_lt, false≢true, and_parts}
use Rattle.std.proofs.lemmas.List.{get_or-map, length-map, get_or-take, get_or_default, length-take-le}
use Rattle.vx_rows.specs.Types.{AlikeTypes, layer_with, layer_nullability, with_nullability, nullability}
use Rattle.vx_rows.specs.Fits.{is_nullable as takes_null, layer_fits, fits_step, value_fits, row_fits, rows_fit}
use Rattle.vx_rows.specs.declared.kinds.Nullability.{Nullability}
use Rattle.vx_rows.specs.declared.kinds.Nullability.TheVariants.{NonNullable, Nullable}
use Rattle.vx_rows.specs.declared.dtype.DType.{DType, out-DType, roll-DType, out-roll-DType, roll-out-DType}
use Rattle.vx_rows.specs.declared.dtype.DType.TheOpen.{DType-F}
use Rattle.vx_rows.specs.declared.dtype.Fields.{Fields}
use Rattle.vx_rows.specs.declared.value.Value.{Value, out-Value, roll-out-Value, fold-roll-Value, map-Value}
use Rattle.vx_rows.specs.declared.value.Value.TheOpen.{Value-F}
use Rattle.vx_base.specs.Column.{Flat, IsFlat}
use Rattle.vx_interleave.specs.Selections.{Selection, IsSelection, AreWithin, pairs_of, len_of, array_of, row_of}
use Rattle.vx_interleave.proofs.Columns.{length_pairs}
use Rattle.vx_interleave_gather.specs.Gathered.{AreAlike, gathered_type, gathered_rows, lens_of, lists_of, named, nullability_by, some_nullable, types_of}
use Rattle.vx_interleave_gather.proofs.Named.{pair_of, named_at, len_at}

-- what holds of each element, one more
pub all_more : {A : Type 0} (P : A → Type 0) (xs : List A) (i : ℕ) (x : A) → i < length xs → x ≡ get_or xs i x → All P (take i xs) → P x → All P (take (i + 1) xs)
all_more P xs i x h e all p k d w =
    let low : k < i + 1 = omega (arith, length-take-le (i + 1) xs (omega arith)) in
    let inside : get_or (take (i + 1) xs) k d ≡ get_or xs k d = get_or-take (i + 1) xs k d low in
    elim (cases_lt k i) as (λ _. P (get_or (take (i + 1) xs) k d)) [
      | inl below ↦
          let there : get_or (take i xs) k d ≡ get_or (take (i + 1) xs) k d = get_or-take i xs k d below ∙ sym inside in
          subst P there (all k d (omega (arith, length-take-le i xs (omega arith))))
      | inr above ↦
          let last : k ≡ i = omega arith in
          let here : x ≡ get_or (take (i + 1) xs) k d = e ∙ get_or_default xs i x d h ∙ sym (ap (λ n. get_or xs n d) last) ∙ sym inside in
          subst P here p
    ]

-- ---- types that differ in the outermost nullability

layer_twice : (n m : Nullability) (y : DType-F DType Fields) → layer_with n (layer_with m y) ≡ layer_with n y
layer_twice n m (DType-F.Bool k) = refl
layer_twice n m (DType-F.Primitive p k) = refl
layer_twice n m (DType-F.Decimal d k) = refl
layer_twice n m (DType-F.Utf8 k) = refl
layer_twice n m (DType-F.Binary k) = refl
layer_twice n m (DType-F.List t k) = refl
layer_twice n m (DType-F.FixedSizeList t j k) = refl
layer_twice n m (DType-F.Struct fs k) = refl

layer_own : (n : Nullability) (y : DType-F DType Fields) → layer_nullability y ≡ n → layer_with n y ≡ y
layer_own n (DType-F.Bool k) e = ap DType-F.Bool (sym e)
layer_own n (DType-F.Primitive p k) e = ap (DType-F.Primitive p) (sym e)
layer_own n (DType-F.Decimal d k) e = ap (DType-F.Decimal d) (sym e)
layer_own n (DType-F.Utf8 k) e = ap DType-F.Utf8 (sym e)
layer_own n (DType-F.Binary k) e = ap DType-F.Binary (sym e)
layer_own n (DType-F.List t k) e = ap (DType-F.List t) (sym e)
layer_own n (DType-F.FixedSizeList t j k) e = ap (DType-F.FixedSizeList t j) (sym e)
layer_own n (DType-F.Struct fs k) e = ap (DType-F.Struct fs) (sym e)

with_alike : (n : Nullability) (s t : DType) → AlikeTypes s t → with_nullability s n ≡ with_nullability t n
with_alike n s t a = ap roll-DType (sym (layer_twice n NonNullable (out-DType s)) ∙ ap (layer_with n) a ∙ layer_twice n NonNullable (out-DType t))

with_own : (n : Nullability) (s : DType) → nullability s ≡ n → with_nullability s n ≡ s
with_own n s e = ap roll-DType (layer_own n (out-DType s) e) ∙ roll-out-DType s

-- ---- what fits a type fits the type that is nullable

abbrev applied : (DType → Bool) → DType → Bool
applied f t = f t

abbrev layer_of : Value-F Value → Value-F (DType → Bool)
layer_of x = map-Value Value (DType → Bool) value_fits x

fits_layer : (v : Value) (t : DType) → value_fits v t ≡ layer_fits applied (layer_of (out-Value v)) (out-DType t)
fits_layer v t = ap (λ w. value_fits w t) (sym (roll-out-Value v)) ∙ ap (λ f. f t) (fold-roll-Value (DType → Bool) fits_step (out-Value v))

layer_same : (x : Value-F (DType → Bool)) (n : Nullability) (y : DType-F DType Fields) → layer_fits applied x (layer_with n y) ≡ layer_fits applied x y
layer_same (Value-F.Bool b) n (DType-F.Bool m) = refl
layer_same (Value-F.Int z) n (DType-F.Primitive p m) = refl
layer_same (Value-F.Decimal z) n (DType-F.Decimal d m) = refl
layer_same (Value-F.Utf8 s) n (DType-F.Utf8 m) = refl
layer_same (Value-F.Binary s) n (DType-F.Binary m) = refl
layer_same (Value-F.List rs) n (DType-F.List t m) = refl
layer_same (Value-F.List rs) n (DType-F.FixedSizeList t k m) = refl
layer_same (Value-F.Struct rs) n (DType-F.Struct fs m) = refl
layer_same x n y = refl

value_same : (v : Value) (t : DType) (n : Nullability) → value_fits v (with_nullability t n) ≡ value_fits v t
value_same v t n =
    fits_layer v (with_nullability t n) ∙ ap (layer_fits applied (layer_of (out-Value v))) (out-roll-DType (layer_with n (out-DType t)))
    ∙ layer_same (layer_of (out-Value v)) n (out-DType t) ∙ sym (fits_layer v t)

layer_nullable : (n : Nullability) (y : DType-F DType Fields) → layer_nullability (layer_with n y) ≡ n
layer_nullable n (DType-F.Bool m) = refl
layer_nullable n (DType-F.Primitive p m) = refl
layer_nullable n (DType-F.Decimal d m) = refl
layer_nullable n (DType-F.Utf8 m) = refl
layer_nullable n (DType-F.Binary m) = refl
layer_nullable n (DType-F.List t m) = refl
layer_nullable n (DType-F.FixedSizeList t k m) = refl
layer_nullable n (DType-F.Struct fs m) = refl

fits_wider : (t : DType) (r : Option Value) → row_fits t r ≡ true → row_fits (with_nullability t Nullable) r ≡ true
fits_wider t None h = ap takes_null (ap layer_nullability (out-roll-DType (layer_with Nullable (out-DType t))) ∙ layer_nullable Nullable (out-DType t))
fits_wider t (Some v) h = value_same v t Nullable ∙ h

-- ---- the joined type

or_true : (b : Bool) → (b || true) ≡ true
or_true true = refl
or_true false = refl

some_at : (ts : List DType) (k : ℕ) (d : DType) → k < length ts → takes_null (nullability (get_or ts k d)) ≡ true → some_nullable ts ≡ true
some_at [] k d h e = absurd (omega arith)
some_at (t ∷ ts) zero d h e = ap (λ b. b || some_nullable ts) e
some_at (t ∷ ts) (suc k) d h e = ap (λ b. takes_null (nullability t) || b) (some_at ts k d (omega arith) e) ∙ or_true (takes_null (nullability t))

own_none : (s : DType) (ts : List DType) (n : Nullability) → nullability s ≡ n → (takes_null (nullability s) ≡ true → some_nullable ts ≡ true) → some_nullable ts ≡ false → nullability s ≡ NonNullable
own_none s ts NonNullable e up f = e
own_none s ts Nullable e up f = absurd (false≢true (sym f ∙ up (ap takes_null e)))

fits_joined : (t : DType) (ts : List DType) (s : DType) (r : Option Value) (b : Bool) → some_nullable (t ∷ ts) ≡ b → AlikeTypes s t → (takes_null (nullability s) ≡ true → some_nullable (t ∷ ts) ≡ true) →
    row_fits s r ≡ true → row_fits (gathered_type (t ∷ ts)) r ≡ true
fits_joined t ts s r true e a up h =
    ap (λ b. row_fits (with_nullability t (nullability_by b)) r) e ∙ ap (λ d. row_fits d r) (sym (with_alike Nullable s t a)) ∙ fits_wider s r h
fits_joined t ts s r false e a up h =
    ap (λ b. row_fits (with_nullability t (nullability_by b)) r) e
    ∙ ap (λ d. row_fits d r) (sym (with_alike NonNullable s t a) ∙ with_own NonNullable s (own_none s (t ∷ ts) (nullability s) refl up e)) ∙ h

-- ---- the rows that are named

fits_at : (t : DType) (rows : List (Option Value)) (i : ℕ) → rows_fit t rows ≡ true → i < length rows → row_fits t (get_or rows i None) ≡ true
fits_at t [] i h k = absurd (omega arith)
fits_at t (r ∷ rows) zero h k = (and_parts (row_fits t r) (rows_fit t rows) h).0
fits_at t (r ∷ rows) (suc i) h k = fits_at t rows i (and_parts (row_fits t r) (rows_fit t rows) h).1 (omega arith)

alike_at : (v : Flat) (vs : List Flat) (k : ℕ) → AreAlike (types_of (v ∷ vs)) → k < length (v ∷ vs) → AlikeTypes (get_or (v ∷ vs) k v).dtype v.dtype
alike_at v vs zero a h = refl
alike_at v vs (suc k) a h =
    subst (λ t. AlikeTypes t v.dtype) (get_or-map (λ (c : Flat). c.dtype) vs k v v.dtype (omega arith)) (a k v.dtype (omega (arith, length-map vs (λ (c : Flat). c.dtype))))

row_fits_at : (v : Flat) (vs : List Flat) (k i : ℕ) → All IsFlat (v ∷ vs) → AreAlike (types_of (v ∷ vs)) → k < length (v ∷ vs) → i < length (get_or (v ∷ vs) k v).rows →
    row_fits (gathered_type (types_of (v ∷ vs))) (get_or (get_or (v ∷ vs) k v).rows i None) ≡ true
row_fits_at v vs k i all alike h j =
    let x : Flat = get_or (v ∷ vs) k v in
    let dtype : Flat → DType = λ (c : Flat). c.dtype in
    fits_joined v.dtype (types_of vs) x.dtype (get_or x.rows i None) (some_nullable (types_of (v ∷ vs))) refl (alike_at v vs k alike h)
    (λ e. some_at (types_of (v ∷ vs)) k v.dtype (omega (arith, h, length-map (v ∷ vs) dtype)) (ap (λ d. takes_null (nullability d)) (get_or-map dtype (v ∷ vs) k v v.dtype h) ∙ e))
    (fits_at x.dtype x.rows i (all k v h) j)

all_mapped : (p : Option Value → Bool) (f : ℕ × ℕ → Option Value) (ps : List (ℕ × ℕ)) → ((i : ℕ) → i < length ps → p (f (get_or ps i (0, 0))) ≡ true) → list_all p (map f ps) ≡ true
all_mapped p f [] h = refl
all_mapped p f (x ∷ xs) h = λ j. h 0 (omega arith) j && all_mapped p f xs (λ i k. h (suc i) (omega arith)) j

pub gathered_fits : (values : List Flat) (s : Selection) → 0 < length values → All IsFlat values → AreAlike (types_of values) → IsSelection s → AreWithin s (lens_of values) →
    rows_fit (gathered_type (types_of values)) (gathered_rows values s) ≡ true
gathered_fits [] s some all alike k w = absurd (omega arith)
gathered_fits (v ∷ vs) s some all alike k w =
    all_mapped (row_fits (gathered_type (types_of (v ∷ vs)))) (named (lists_of (v ∷ vs))) (pairs_of s) (λ i h.
    let at : i < len_of s = omega (arith, h, length_pairs s k) in
    let low = w i at in
    let a : array_of s i < length (v ∷ vs) = omega (arith, low.0, length-map (v ∷ vs) (λ (c : Flat). length c.rows)) in
    let r : row_of s i < length (get_or (v ∷ vs) (array_of s i) v).rows = omega (arith, low.1, len_at (v ∷ vs) v (array_of s i) a) in
    ap (λ p. row_fits (gathered_type (types_of (v ∷ vs))) (named (lists_of (v ∷ vs)) p)) (pair_of s i k at)
    ∙ ap (row_fits (gathered_type (types_of (v ∷ vs)))) (named_at (v ∷ vs) v (array_of s i) (row_of s i) a)
    ∙ row_fits_at v vs (array_of s i) (row_of s i) all alike a r)
