-- Which exceptions may replace rows of a flat column, and why others are refused.
use Rattle.std.specs.Prelude.{◌≡◌, ◌≢◌, ◌⊎◌, length}
use Rattle.vx_rows.specs.declared.kinds.Nullability.TheVariants.{NonNullable}
use Rattle.vx_rows.specs.declared.dtype.DType.{DType}
use Rattle.vx_rows.specs.declared.error.ColumnError.{ColumnError}
use Rattle.vx_rows.specs.declared.error.ColumnError.TheVariants.{OutOfMemory, LengthMismatch, MismatchedTypes}
use Rattle.vx_rows.specs.Types.{AlikeTypes, nullability}
use Rattle.vx_base.specs.Column.{Flat}
use Rattle.vx_patches.specs.Pairs.{Overlay}

-- values of the one type may stand among rows of the other: the types are the same up to nullability, and where the base isn't
-- nullable, the values aren't
pub record TakesValues (base values : DType) : Type 0 where
  pub alike : AlikeTypes values base
  pub nulls : nullability base ≡ NonNullable → nullability values ≡ NonNullable

-- exceptions to so many rows, of that type
pub record IsPatchable (base : Flat) (o : Overlay) : Type 0 where
  pub long : length base.rows ≡ o.index.len
  pub takes : TakesValues base.dtype o.values.dtype

abbrev pub PatchCause : Flat → Overlay → ColumnError → Type 0
PatchCause base o e =
    (e ≡ OutOfMemory)
    ⊎ (((e ≡ LengthMismatch o.index.len (length base.rows)) × (length base.rows ≢ o.index.len))
    ⊎ ((e ≡ MismatchedTypes) × (length base.rows ≡ o.index.len) × (TakesValues base.dtype o.values.dtype → ⊥)))
