-- Selections of rows are steps.
use Rattle.std.proofs.Common.{◌≡◌, ℕ, List, Option, Bool, true, false, cond, refl, ◌∙◌, ap}
use Rattle.std.specs.List.{list_any}
use Rattle.std.specs.Prelude.{is_none, OnOk, Result, Ok, Err}
use Rattle.vx_rows.specs.Types.{is_nested, layer_nested, layer_with, with_nullability}
use Rattle.vx_rows.specs.declared.kinds.Nullability.{Nullability}
use Rattle.vx_rows.specs.declared.kinds.Nullability.TheVariants.{Nullable}
use Rattle.vx_rows.specs.declared.dtype.DType.{DType, out-DType, out-roll-DType}
use Rattle.vx_rows.specs.declared.dtype.DType.TheOpen.{DType-F}
use Rattle.vx_base.specs.Column.{flat}
use Rattle.vx_bulk.specs.Types.{nullable, taken_type}
use Rattle.vx_job.specs.Rows.{Rows}
use Rattle.vx_column.specs.Columns.{type_of, flat_of}
use Rattle.vx_column.specs.declared.column.Column.{Column}
use Rattle.vx_select.specs.Chosen.{IsSelectionOf}
use Rattle.vx_plan.specs.AnswersView.{CostsNoMore}

layer_same : {A B : Type 0} (m : Nullability) (layer : DType-F A B) → layer_nested (layer_with m layer) ≡ layer_nested layer
layer_same m (DType-F.Bool n) = refl
layer_same m (DType-F.Primitive p n) = refl
layer_same m (DType-F.Decimal d n) = refl
layer_same m (DType-F.Utf8 n) = refl
layer_same m (DType-F.Binary n) = refl
layer_same m (DType-F.List t n) = refl
layer_same m (DType-F.FixedSizeList t k n) = refl
layer_same m (DType-F.Struct fs n) = refl

-- a type is as nested as it is without its nullability
pub nested_with : (t : DType) (m : Nullability) → is_nested (with_nullability t m) ≡ is_nested t
nested_with t m = ap layer_nested (out-roll-DType (layer_with m (out-DType t))) ∙ layer_same m (out-DType t)

pub taken_nested : (t : DType) (indices : List (Option ℕ)) → is_nested (taken_type t indices) ≡ is_nested t
taken_nested t indices = by (list_any is_none indices)
  where
    by : (absent : Bool) → is_nested (cond absent (nullable t) t) ≡ is_nested t
    by true = nested_with t Nullable
    by false = refl

pub selected_flat : (whole : Column) (t : DType) (rows : Rows) (part : Column) → IsSelectionOf whole t rows part → flat_of part ≡ flat t rows
selected_flat whole t rows part is = λ i. flat (is.dtype i) (is.is i)

pub selected_costs : (whole : Column) (t : DType) (rows : Rows) (part : Column) → is_nested t ≡ is_nested (type_of whole) → IsSelectionOf whole t rows part → CostsNoMore whole part
selected_costs whole t rows part same is = record { nested = ap is_nested is.dtype ∙ same; point = is.point; cut = is.cut; lanes = is.lanes; plain = is.plain }

-- what follows from two things that hold of a value
pub on_both : {T E P Q R : Type 0} (r : Result T E) → (P → Q → R) → OnOk r P → OnOk r Q → OnOk r R
on_both (Ok x) f p q = f p q
on_both (Err e) f p q = tt
