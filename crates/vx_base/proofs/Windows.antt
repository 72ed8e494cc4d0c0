-- Windows over the rows of a flat column.
use Rattle.std.proofs.Common.{ℕ, zero, suc, ◌≡◌, ◌+◌, ◌-◌, ◌≤◌, ◌∙◌, sym, ap, refl, subst, arith, Bool, true, false, ◌&&◌, List, length, take, drop, replicate, get_or, ◌<◌, Option, None}
use Rattle.std.specs.List.{slice_range, list_all}
use Rattle.std.proofs.lemmas.Bool.{false≢true}
use Rattle.std.proofs.lemmas.List.{drop-take, take-take, drop-drop, take-append-drop, length-take-le, length-drop, length-replicate, drop-replicate, take-replicate, get_or_default, get_or-drop, get_or-take}
use Rattle.std.proofs.lemmas.List.Folds.{list_all-append}
use Rattle.vx_rows.specs.declared.dtype.DType.{DType}
use Rattle.vx_rows.specs.declared.value.Value.{Value}
use Rattle.vx_base.specs.declared.flat.Source.{Source}
use Rattle.vx_base.specs.declared.flat.Source.TheVariants.{Rows, Constant}
use Rattle.vx_base.specs.declared.flat.FlatColumn.TheInside.{Inside}
use Rattle.vx_rows.specs.Fits.{row_fits, rows_fit}
use Rattle.vx_rows.specs.Sizes.{row_takes_memory, type_takes_memory}
use Rattle.vx_rows.proofs.Memory.{rows_free}
use Rattle.vx_base.specs.Column.{Flat, flat}
use Rattle.vx_base.specs.Flat.{rows_of, IsWindow, flat_of, IsSound}

pub range_range : {X : Type 0} (xs : List X) (a b i j : ℕ) → i ≤ j → j ≤ b - a → slice_range (slice_range xs a b) i j ≡ slice_range xs (a + i) (a + j)
range_range xs a b i j o h =
    let m : ℕ = b - a - i in
    let e : b - a ≡ i + m = omega arith in
    let f : j - i ≡ a + j - (a + i) = omega arith in
    ap (λ n. take (j - i) (drop i (take n (drop a xs)))) e ∙ ap (take (j - i)) (drop-take i m (drop a xs)) ∙ take-take (j - i) m (drop i (drop a xs)) (omega arith)
    ∙ ap (take (j - i)) (drop-drop i a xs) ∙ ap (λ n. take n (drop (a + i) xs)) f

range_replicate : {X : Type 0} (n : ℕ) (x : X) (i j : ℕ) → i ≤ j → j ≤ n → slice_range (replicate n x) i j ≡ replicate (j - i) x
range_replicate n x i j o h = ap (take (j - i)) (drop-replicate i n x) ∙ take-replicate (j - i) (n - i) x (omega arith)

both : (a b : Bool) → (a && b) ≡ true → (a ≡ true) × (b ≡ true)
both true b e = (refl, e)
both false b e = absurd (false≢true e)

module _ {X : Type 0} (p : X → Bool) where
  split_all : (n : ℕ) (xs : List X) → list_all p xs ≡ true → (list_all p (take n xs) ≡ true) × (list_all p (drop n xs) ≡ true)
  split_all n xs h = both _ _ (sym (list_all-append p (take n xs) (drop n xs)) ∙ ap (list_all p) (take-append-drop n xs) ∙ h)

  pub all_range : (xs : List X) (i j : ℕ) → list_all p xs ≡ true → list_all p (slice_range xs i j) ≡ true
  all_range xs i j h = (split_all (j - i) (drop i xs) (split_all i xs h).1).0

  pub all_replicate : (n : ℕ) (x : X) → p x ≡ true → list_all p (replicate n x) ≡ true
  all_replicate zero x h = refl
  all_replicate (suc n) x h = λ i. h i && all_replicate n x h i

pub rows_fit_range : (t : DType) (xs : List (Option Value)) (i j : ℕ) → rows_fit t xs ≡ true → rows_fit t (slice_range xs i j) ≡ true
rows_fit_range t = all_range (row_fits t)

pub rows_fit_replicate : (t : DType) (n : ℕ) (r : Option Value) → row_fits t r ≡ true → rows_fit t (replicate n r) ≡ true
rows_fit_replicate t = all_replicate (row_fits t)

length_range : {X : Type 0} (xs : List X) (a b : ℕ) → a ≤ b → b ≤ length xs → length (slice_range xs a b) ≡ b - a
length_range xs a b o h = length-take-le (b - a) (drop a xs) (omega (arith, length-drop a xs))

pub length_rows_of : (s : Source) (a b : ℕ) → IsWindow s a b → length (rows_of s a b) ≡ b - a
length_rows_of (Rows rs) a b w = length_range rs a b w.0 w.1
length_rows_of (Constant r) a b w = length-replicate (b - a) r

inner_window : (s : Source) (a b i j : ℕ) → IsWindow s a b → i ≤ j → j ≤ b - a → IsWindow s (a + i) (a + j)
inner_window (Rows rs) a b i j w o h = let p = w.0 in let q = w.1 in (omega arith, omega arith)
inner_window (Constant r) a b i j w o h = omega arith

inner_rows : (s : Source) (a b i j : ℕ) → IsWindow s a b → i ≤ j → j ≤ b - a → rows_of s (a + i) (a + j) ≡ slice_range (rows_of s a b) i j
inner_rows (Rows rs) a b i j w o h = sym (range_range rs a b i j o h)
inner_rows (Constant r) a b i j w o h =
    let f : a + j - (a + i) ≡ j - i = omega arith in
    ap (λ n. replicate n r) f ∙ sym (range_replicate (b - a) r i j o h)

ordered : (s : Source) (a b : ℕ) → IsWindow s a b → a ≤ b
ordered (Rows rs) a b w = w.0
ordered (Constant r) a b w = w

abbrev moved : Inside → ℕ → ℕ → Inside
moved c i j = record { dtype = c.dtype; source = c.source; start = c.start + i; end = c.start + j }

module _ (c : Inside) (k : IsSound c) (i j : ℕ) (o : i ≤ j) (h : j ≤ length (rows_of c.source c.start c.end)) where
  within : j ≤ c.end - c.start
  within = let e = length_rows_of c.source c.start c.end k.0 in omega arith

  same_rows : rows_of c.source (c.start + i) (c.start + j) ≡ slice_range (rows_of c.source c.start c.end) i j
  same_rows = inner_rows c.source c.start c.end i j k.0 o within

  moved_flat : flat_of (moved c i j) ≡ flat c.dtype (slice_range (rows_of c.source c.start c.end) i j)
  moved_flat = ap (flat c.dtype) same_rows

  moved_sound : IsSound (moved c i j)
  moved_sound =
      let a = ordered c.source c.start c.end k.0 in let b = within in let e = k.1 in (
        inner_window c.source c.start c.end i j k.0 o within,
        omega arith,
        ap (rows_fit c.dtype) same_rows ∙ rows_fit_range c.dtype (rows_of c.source c.start c.end) i j k.2,
      )

pub windowed : (c : Inside) (v : Flat) (t : DType) (s : Source) → flat_of c ≡ v → IsSound c → t ≡ c.dtype → s ≡ c.source → (i j : ℕ) → i ≤ j → j ≤ length v.rows
    → IsSound (record { dtype = t; source = s; start = c.start + i; end = c.start + j })
    × (flat_of (record { dtype = t; source = s; start = c.start + i; end = c.start + j }) ≡ flat v.dtype (slice_range v.rows i j))
windowed c v t s e k p q i j o h =
    rw (p, q, sym e) (let h' : j ≤ length (rows_of c.source c.start c.end) = subst (λ w. j ≤ length w.rows) (sym e) h in (moved_sound c k i j o h', moved_flat c k i j o h'))

pub rows_inside : (c : Inside) (v : Flat) → flat_of c ≡ v → IsSound c → (i j : ℕ) → i ≤ j → j ≤ length v.rows → rows_of c.source (c.start + i) (c.start + j) ≡ slice_range v.rows i j
rows_inside c v e k i j o h =
    same_rows c k i j o (subst (λ w. j ≤ length w.rows) (sym e) h) ∙ ap (λ w. slice_range w.rows i j) e

-- a stored row of a type that takes no memory
pub stored_free : (c : Inside) (v : Flat) → flat_of c ≡ v → IsSound c → (rs : List (Option Value)) → c.source ≡ Rows rs → (i : ℕ) (r : Option Value) → r ≡ get_or rs (c.start + i) r
    → i < length v.rows → type_takes_memory v.dtype ≡ false → row_takes_memory r ≡ false
stored_free c v e k rs is i r at h free =
    let w : (c.start ≤ c.end) × (c.end ≤ length rs) = subst (λ s. IsWindow s c.start c.end) is k.0 in
    let same : slice_range rs c.start c.end ≡ v.rows = sym (ap (λ s. rows_of s c.start c.end) is) ∙ ap (λ f. f.rows) e in
    let long : length (slice_range rs c.start c.end) ≡ c.end - c.start = length_range rs c.start c.end w.0 w.1 in
    let inside : i < c.end - c.start = omega (arith, h, ap length same, long) in
    let a = w.0 in let b = w.1 in
    let found : r ≡ get_or v.rows i None =
    at ∙ get_or_default rs (c.start + i) r None (omega arith) ∙ sym (get_or-drop c.start rs i None)
    ∙ sym (get_or-take (c.end - c.start) (drop c.start rs) i None inside) ∙ ap (λ xs. get_or xs i None) same in
    let fits : rows_fit v.dtype v.rows ≡ true = subst (λ x. rows_fit x.dtype x.rows ≡ true) e k.2 in
    ap row_takes_memory found ∙ rows_free v.dtype v.rows i fits free
