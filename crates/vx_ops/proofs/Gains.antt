-- Lists of columns that gain columns.
use Rattle.std.proofs.Common.{arith, refl, sym, ◌∙◌, ap, subst, inl, inr, ◌≡◌, ◌<◌, ◌≤◌, ◌+◌, ◌^◌, ℕ, List, [], ◌∷◌, ◌++◌, length, take, get_or, append_assoc, append-nil, length-append}
use Rattle.std.proofs.lemmas.List.{take_all}
use Rattle.std.proofs.lemmas.List.Elements.{All-push}
use Rattle.std.specs.List.{All}
use Rattle.vx_rows.specs.declared.dtype.DType.{DType}
use Rattle.vx_rows.specs.declared.error.ColumnError.{ColumnError}
use Rattle.vx_rows.specs.declared.error.ColumnError.TheVariants.{OutOfMemory}
use Rattle.vx_base.specs.Column.{Flat, flat}
use Rattle.vx_job.specs.Rows.{Rows}
use Rattle.vx_column.specs.Columns.{type_of, rows_of, len_of, flat_of, ChunksCause, IsSound, IsOf}
use Rattle.vx_column.specs.declared.chunked.Chunked.{Chunked}
use Rattle.vx_column.specs.declared.column.Column.{Column}
use Rattle.vx_column.specs.declared.column.Column.TheVariants as column
use Rattle.vx_column.proofs.Cuts.{rows-append, held_at, rows_more, rows_part, len_fits}
use Rattle.vx_column.proofs.Layers.{type_flat, rows_flat, type_chunked, rows_chunked, total_joined}
use Rattle.vx_ops.specs.Chunks.{HasGained, rows_in}

pub gained_none : (t : DType) (xs : List Column) → HasGained t [] xs xs
gained_none t xs = record { sound = λ h. h; types = λ h. h; gained = sym (append-nil (rows_in xs)) }

pub gained_more : (t : DType) (a b : Rows) (xs ys zs : List Column) → HasGained t a xs ys → HasGained t b ys zs → HasGained t (a ++ b) xs zs
gained_more t a b xs ys zs h k = record {
  sound = λ s. k.sound (h.sound s);
  types = λ s. k.types (h.types s);
  gained = k.gained ∙ ap (λ r. r ++ b) h.gained ∙ append_assoc (rows_in xs) a b;
}

pub gained_as : (s t : DType) (a b : Rows) (xs ys : List Column) → s ≡ t → a ≡ b → HasGained s a xs ys → HasGained t b xs ys
gained_as s t a b xs ys e f h = subst (λ (u : DType). HasGained u b xs ys) e (subst (λ (r : Rows). HasGained s r xs ys) f h)

pub gained_one : (xs ys : List Column) (x : Column) → ys ≡ xs ++ x ∷ [] → IsSound x → HasGained (type_of x) (rows_of x) xs ys
gained_one xs ys x e s = record {
  sound = λ h. subst (All IsSound) (sym e) (All-push IsSound xs x h s);
  types = λ h. subst (All (IsOf (type_of x))) (sym e) (All-push (IsOf (type_of x)) xs x h refl);
  gained = ap rows_in e ∙ rows-append xs (x ∷ []) ∙ ap (λ r. rows_in xs ++ r) (append-nil (rows_of x));
}

-- a column that equals another, of a type and rows
pub gained_alike : (t : DType) (rows : Rows) (xs ys : List Column) (x y : Column) → ys ≡ xs ++ y ∷ [] → y ≡ x → IsSound y → type_of x ≡ t → rows_of x ≡ rows → HasGained t rows xs ys
gained_alike t rows xs ys x y e same s of is = gained_as (type_of y) t (rows_of y) rows xs ys (ap type_of same ∙ of) (ap rows_of same ∙ is) (gained_one xs ys y e s)

pub gained_flat : (rows : Flat) (xs ys : List Column) (x : Column) → ys ≡ xs ++ x ∷ [] → x ≡ column.Flat rows → IsSound x → HasGained rows.dtype rows.rows xs ys
gained_flat rows xs ys x e is s = gained_alike rows.dtype rows.rows xs ys (column.Flat rows) x e is s (type_flat rows) (rows_flat rows)

-- a flat column behind those that were gained
pub flat_more : (t : DType) (a b whole : Rows) (xs ys : List Column) (rows : Flat) → rows ≡ flat t b → whole ≡ a ++ b → HasGained t a [] xs → HasGained rows.dtype rows.rows xs ys → HasGained t whole [] ys
flat_more t a b whole xs ys rows e f h k =
    gained_as t t (a ++ b) whole [] ys refl (sym f)
    (gained_more t a b [] xs ys h (gained_as rows.dtype t rows.rows b xs ys (ap (λ (r : Flat). r.dtype) e) (ap (λ (r : Flat). r.rows) e) k))

-- what a list has gained that held nothing
pub all_sound : (t : DType) (rows : Rows) (xs : List Column) → HasGained t rows [] xs → All IsSound xs
all_sound t rows xs h = h.sound (λ k d inside. absurd (omega arith))

pub all_typed : (t : DType) (rows : Rows) (xs : List Column) → HasGained t rows [] xs → All (IsOf t) xs
all_typed t rows xs h = h.types (λ k d inside. absurd (omega arith))

-- the column made of them
pub made_flat : (t u : DType) (rows : Rows) (xs : List Column) (x : Column) → HasGained t rows [] xs → u ≡ t → flat_of x ≡ flat u (rows_in xs) → flat_of x ≡ flat t rows
made_flat t u rows xs x h e is = is ∙ ap (λ (v : DType). flat v (rows_in xs)) e ∙ ap (flat t) h.gained

pub few_rows : (c : Chunked Column) (t : DType) (rows : Rows) (xs : List Column) → IsSound (column.Chunked c) → length rows ≡ len_of (column.Chunked c) → HasGained t rows [] xs → length (rows_in xs) < 2 ^ 64
few_rows c t rows xs s long h = omega (arith, ap length h.gained, long, len_fits c s)

-- the type and the rows of a flat column
pub flat_view : (x : Column) (rows : Flat) (t : DType) (list : Rows) → x ≡ column.Flat rows → rows ≡ flat t list → flat_of x ≡ flat t list
flat_view x rows t list e is = ap flat_of e ∙ ap (λ (u : DType). flat u (rows_of (column.Flat rows))) (type_flat rows) ∙ ap (flat rows.dtype) (rows_flat rows) ∙ is

-- chunks of a type that are joined
pub joined_flat : (c : Chunked Column) (t : DType) (xs : List Column) → c.chunks ≡ xs → c.dtype ≡ t → flat_of (column.Chunked c) ≡ flat t (rows_in xs)
joined_flat c t xs e f =
    ap (λ (u : DType). flat u (rows_of (column.Chunked c))) (type_chunked c ∙ f) ∙ ap (flat t) (rows_chunked c ∙ ap rows_in e)

pub only_memory : (t : DType) (xs : List Column) (e : ColumnError) → All (IsOf t) xs → length (rows_in xs) < 2 ^ 64 → ChunksCause t xs e → e ≡ OutOfMemory
only_memory t xs e of few (inl memory) = memory
only_memory t xs e of few (inr (inl long)) = let h = long.1 in absurd (omega (arith, total_joined xs))
only_memory t xs e of few (inr (inr kind)) = absurd (kind.2 of)

-- the first columns and one more have no more rows than all
pub rows_within : (xs : List Column) (k : ℕ) (x : Column) → k < length xs → x ≡ get_or xs k x → length (rows_in (take k xs)) + len_of x ≤ length (rows_in xs)
rows_within xs k x h e =
    omega (arith, ap length (rows_more xs k x h e), length-append (rows_in (take k xs)) (rows_of x), rows_part xs (k + 1))

-- a function of rows that goes through joined rows, of one column more
pub mapped_more : (F : Rows → Rows) → ((a b : Rows) → F (a ++ b) ≡ F a ++ F b) → (t : DType) (xs : List Column) (k : ℕ) (x : Column) (old new : List Column) (rows : Flat) → k < length xs → x ≡ get_or xs k x →
    rows ≡ flat t (F (rows_of x)) → HasGained t (F (rows_in (take k xs))) [] old → HasGained rows.dtype rows.rows old new → HasGained t (F (rows_in (take (k + 1) xs))) [] new
mapped_more F joins t xs k x old new rows h e is gained pushed =
    flat_more t (F (rows_in (take k xs))) (F (rows_of x)) (F (rows_in (take (k + 1) xs))) old new rows is
    (ap F (rows_more xs k x h e) ∙ joins (rows_in (take k xs)) (rows_of x)) gained pushed

-- and of all
pub mapped_all : (F : Rows → Rows) (t : DType) (xs : List Column) (k : ℕ) (all : Rows) (new : List Column) → length xs ≤ k → rows_in xs ≡ all → HasGained t (F (rows_in (take k xs))) [] new → HasGained t (F all) [] new
mapped_all F t xs k all new h e gained = gained_as t t (F (rows_in (take k xs))) (F all) [] new refl (ap (λ ys. F (rows_in ys)) (take_all k xs h) ∙ ap F e) gained

-- a chunk is of the type of all
pub typed_at : (c : Chunked Column) (all xs : List Column) (k : ℕ) (x : Column) → xs ≡ all → All (IsOf (type_of (column.Chunked c))) all → k < length xs → x ≡ get_or xs k x → type_of x ≡ type_of (column.Chunked c)
typed_at c all xs k x same of h e = held_at (IsOf (type_of (column.Chunked c))) xs k x (subst (All (IsOf (type_of (column.Chunked c)))) (sym same) of) h e

-- a list that held nothing, by that it did
pub gained_first : (t : DType) (xs ys : List Column) → xs ≡ [] → ys ≡ [] → HasGained t [] ys xs
gained_first t xs ys e f = subst (λ (zs : List Column). HasGained t [] ys zs) (f ∙ sym e) (gained_none t ys)

pub gained_from : (t : DType) (rows : Rows) (xs ys : List Column) → xs ≡ [] → HasGained t rows xs ys → HasGained t rows [] ys
gained_from t rows xs ys e h = subst (λ (zs : List Column). HasGained t rows zs ys) e h
