-- What has to hold of the parts of an assembled column: their types, their lengths, and what ties them.
use Rattle.std.specs.Prelude.{◌≡◌, ◌≤◌, ℕ, List, [], ◌∷◌, length, Bool, true, false, ◌||◌, IsTrue, All}
use Rattle.vx_rows.specs.Types.{AlikeTypes, nullability, with_nullability}
use Rattle.vx_rows.specs.Fits.{is_nullable as takes_null}
use Rattle.vx_rows.specs.declared.kinds.Nullability.{Nullability}
use Rattle.vx_rows.specs.declared.kinds.Nullability.TheVariants.{NonNullable, Nullable}
use Rattle.vx_rows.specs.declared.dtype.DType.{DType, out-DType}
use Rattle.vx_rows.specs.declared.dtype.DType.TheVariants as dtype
use Rattle.vx_rows.specs.declared.dtype.DType.TheOpen.{DType-F}
use Rattle.vx_base.specs.Numbers.{is_integer}
use Rattle.vx_patches.specs.Places.{Index, IsIndex, indices_of}
use Rattle.vx_lanes.specs.Layouts.{IsLayout}
use Rattle.vx_lanes.specs.declared.layout.Layout.{Layout}
use Rattle.vx_interleave.specs.Selections.{Selection, IsSelection, AreWithin}

abbrev pub layer_is_bool_or_integer : {A B : Type 0} → DType-F A B → Bool
layer_is_bool_or_integer (DType-F.Bool n) = true
layer_is_bool_or_integer (DType-F.Primitive p n) = true
layer_is_bool_or_integer t = false

-- a type of booleans or integers
abbrev pub is_bool_or_integer : DType → Bool
is_bool_or_integer t = layer_is_bool_or_integer (out-DType t)

-- whether a null is a row of the type
abbrev pub is_nullable : DType → Bool
is_nullable t = takes_null (nullability t)

abbrev pub some_nullable : List DType → Bool
some_nullable [] = false
some_nullable (t ∷ ts) = is_nullable t || some_nullable ts

abbrev pub nullability_by : Bool → Nullability
nullability_by true = Nullable
nullability_by false = NonNullable

-- the first type, nullable where any is (none is asked for without a type)
abbrev pub interleaved_type : List DType → DType
interleaved_type [] = dtype.Bool NonNullable
interleaved_type (t ∷ ts) = with_nullability t (nullability_by (some_nullable (t ∷ ts)))

-- all are the first up to nullability
abbrev pub AreAlike : List DType → Type 0
AreAlike [] = Unit {0}
AreAlike (t ∷ ts) = All (λ s. AlikeTypes s t) ts

-- exceptions over rows of a type and number, with values of a type and number
pub record AreExceptionKinds (index : Index) (base : DType) (len : ℕ) (values : DType) (count : ℕ) : Type 0 where
  pub kind : IsTrue (is_bool_or_integer base)
  pub sorted : IsIndex index
  pub as_long : index.len ≡ len
  pub paired : count ≡ length (indices_of index)
  pub alike : AlikeTypes values base
  pub nulls : IsTrue (is_nullable values) → IsTrue (is_nullable base)

-- lanes over rows of a type and number
pub record AreLaneKinds (layout : Layout) (inner : DType) (len : ℕ) : Type 0 where
  pub integers : IsTrue (is_integer inner)
  pub sound : IsLayout layout
  pub as_long : layout.len ≡ len
  pub alike : AlikeTypes layout.patch_values.dtype inner

-- selectors over values of these types and lengths
pub record AreInterleaveKinds (selectors : Selection) (t : DType) (types : List DType) (lens : List ℕ) : Type 0 where
  pub kind : All (λ t. IsTrue (is_bool_or_integer t)) types
  pub some : 2 ≤ length types
  pub sound : IsSelection selectors
  pub alike : AreAlike types
  pub joined : t ≡ interleaved_type types
  pub within : AreWithin selectors lens
