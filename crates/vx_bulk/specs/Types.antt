-- The types of selections of rows.
use Rattle.std.specs.Prelude.{ℕ, Bool, cond, is_none, List, Option}
use Rattle.std.specs.List.{list_any}
use Rattle.vx_rows.specs.Types.{with_nullability}
use Rattle.vx_rows.specs.declared.kinds.Nullability.TheVariants.{Nullable}
use Rattle.vx_rows.specs.declared.dtype.DType.{DType}

-- the type, of which a null is a row too
abbrev pub nullable : DType → DType
nullable t = with_nullability t Nullable

-- the type of the rows at places: nullable where one of the places is absent
abbrev pub taken_type : DType → List (Option ℕ) → DType
taken_type t places = cond (list_any is_none places) (nullable t) t
