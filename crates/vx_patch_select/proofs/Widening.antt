-- Values of which a null may be one.
use Rattle.std.proofs.Common.{ℕ, ◌≡◌, ◌∙◌, ap, refl, length, replicate, Bool, true, false, cond, List, [], ◌∷◌, Option}
use Rattle.std.specs.Option.{is_none}
use Rattle.std.specs.List.{list_any}
use Rattle.vx_rows.specs.declared.kinds.Nullability.TheVariants.{Nullable}
use Rattle.vx_rows.specs.declared.dtype.DType.{DType, out-DType, roll-DType, out-roll-DType}
use Rattle.vx_rows.specs.declared.dtype.DType.TheOpen.{DType-F}
use Rattle.vx_rows.specs.declared.dtype.Fields.{Fields}
use Rattle.vx_rows.specs.Types.{layer_with}
use Rattle.vx_bulk.specs.Selections.{masked}
use Rattle.vx_bulk.specs.Types.{nullable, taken_type}

pub all_masked : {A : Type 0} (rows : List (Option A)) (bits : List Bool) → bits ≡ replicate (length rows) true → masked rows bits ≡ rows
all_masked {A} rows bits e = ap (masked rows) e ∙ whole rows where
  whole : (rs : List (Option A)) → masked rs (replicate (length rs) true) ≡ rs
  whole [] = refl
  whole (r ∷ rs) = ap (λ (xs : List (Option A)). r ∷ xs) (whole rs)

layer_twice : (y : DType-F DType Fields) → layer_with Nullable (layer_with Nullable y) ≡ layer_with Nullable y
layer_twice (DType-F.Bool n) = refl
layer_twice (DType-F.Primitive p n) = refl
layer_twice (DType-F.Decimal d n) = refl
layer_twice (DType-F.Utf8 n) = refl
layer_twice (DType-F.Binary n) = refl
layer_twice (DType-F.List t n) = refl
layer_twice (DType-F.FixedSizeList t k n) = refl
layer_twice (DType-F.Struct fs n) = refl

nullable_twice : (t : DType) → nullable (nullable t) ≡ nullable t
nullable_twice t = ap roll-DType (ap (layer_with Nullable) (out-roll-DType (layer_with Nullable (out-DType t))) ∙ layer_twice (out-DType t))

-- widened once more, what is taken has the wider type
pub taken_wider : (t : DType) (places : List (Option ℕ)) → nullable (taken_type t places) ≡ nullable t
taken_wider t places = by (list_any is_none places) where
  by : (b : Bool) → nullable (cond b (nullable t) t) ≡ nullable t
  by true = nullable_twice t
  by false = refl
