-- What types of parts say of the type of the whole.
use Rattle.std.proofs.Common.{◌≡◌, ℕ, zero, suc, ◌<◌, List, [], ◌∷◌, map, length, get_or, refl, sym, ◌∙◌, ap, subst, arith, IsFalse}
use Rattle.std.specs.List.{All}
use Rattle.std.proofs.lemmas.List.{length-map, get_or-map}
use Rattle.std.proofs.lemmas.List.Elements.{All-map}
use Rattle.vx_rows.specs.Types.{AlikeTypes, layer_with, with_nullability}
use Rattle.vx_rows.specs.Sizes.{type_takes_memory, layer_type_takes_memory}
use Rattle.vx_rows.specs.declared.kinds.Nullability.{Nullability}
use Rattle.vx_rows.specs.declared.kinds.Nullability.TheVariants.{NonNullable}
use Rattle.vx_rows.specs.declared.dtype.DType.{DType, out-DType, out-roll-DType}
use Rattle.vx_rows.specs.declared.dtype.DType.TheOpen.{DType-F}
use Rattle.vx_job.specs.Kinds.{AreAlike, interleaved_type, nullability_by, some_nullable}
use Rattle.vx_column.specs.Columns.{type_of, IsSound}
use Rattle.vx_column.specs.declared.interleave.Interleave.{Interleave}
use Rattle.vx_column.specs.declared.column.Column.{Column}
use Rattle.vx_column.specs.declared.column.Column.TheVariants as column
use Rattle.vx_column.proofs.Layers.{type_interleave, interleaved_here}

layer_takes : {A B : Type 0} (n : Nullability) (t : DType-F A B) → layer_type_takes_memory (layer_with n t) ≡ layer_type_takes_memory t
layer_takes n (DType-F.Bool m) = refl
layer_takes n (DType-F.Primitive p m) = refl
layer_takes n (DType-F.Decimal d m) = refl
layer_takes n (DType-F.Utf8 m) = refl
layer_takes n (DType-F.Binary m) = refl
layer_takes n (DType-F.List t m) = refl
layer_takes n (DType-F.FixedSizeList t k m) = refl
layer_takes n (DType-F.Struct fs m) = refl

-- types that are the same up to nullability take memory alike
pub alike_takes : (s t : DType) → AlikeTypes s t → type_takes_memory s ≡ type_takes_memory t
alike_takes s t e = sym (layer_takes NonNullable (out-DType s)) ∙ ap layer_type_takes_memory e ∙ layer_takes NonNullable (out-DType t)

with_takes : (t : DType) (n : Nullability) → type_takes_memory (with_nullability t n) ≡ type_takes_memory t
with_takes t n = ap layer_type_takes_memory (out-roll-DType (layer_with n (out-DType t))) ∙ layer_takes n (out-DType t)

-- each type takes memory where the interleaved one does
interleaved_takes : (ts : List DType) (k : ℕ) → AreAlike ts → k < length ts → type_takes_memory (get_or ts k (interleaved_type ts)) ≡ type_takes_memory (interleaved_type ts)
interleaved_takes [] k a h = absurd (omega arith)
interleaved_takes (t ∷ ts) zero a h = sym (with_takes t (nullability_by (some_nullable (t ∷ ts))))
interleaved_takes (t ∷ ts) (suc k) a h =
    alike_takes (get_or ts k (interleaved_type (t ∷ ts))) t (a k (interleaved_type (t ∷ ts)) (omega arith)) ∙ sym (with_takes t (nullability_by (some_nullable (t ∷ ts))))

pub interleaved_free : (i : Interleave Column) (k : ℕ) (x : Column) → IsSound (column.Interleave i) → k < length i.values → x ≡ get_or i.values k x →
    IsFalse (type_takes_memory (type_of (column.Interleave i))) → IsFalse (type_takes_memory (type_of x))
interleaved_free i k x s h e light =
    let here = interleaved_here i s in
    let types = map type_of i.values in
    let inside : k < length types = omega (arith, length-map i.values type_of) in
    let at_k : get_or types k (interleaved_type types) ≡ type_of x = get_or-map type_of i.values k x (interleaved_type types) h ∙ ap type_of (sym e) in
    ap type_takes_memory (sym at_k) ∙ interleaved_takes types k here.alike inside ∙ ap type_takes_memory (sym (type_interleave i ∙ here.joined)) ∙ light

-- the types of columns are like the first's exactly where the columns are of types like it
pub alike_up : (x : Column) (xs : List Column) → All (λ y. AlikeTypes (type_of y) (type_of x)) xs → AreAlike (map type_of (x ∷ xs))
alike_up x xs all = All-map (λ t. AlikeTypes t (type_of x)) type_of xs all

pub alike_down : (x : Column) (xs : List Column) → AreAlike (map type_of (x ∷ xs)) → All (λ y. AlikeTypes (type_of y) (type_of x)) xs
alike_down x xs all k y h =
    subst (λ t. AlikeTypes t (type_of x)) (get_or-map type_of xs k y (type_of y) h) (all k (type_of y) (omega (arith, length-map xs type_of)))
