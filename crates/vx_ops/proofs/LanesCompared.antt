-- Lanes compared with a number.
use Rattle.std.proofs.Common.{arith, ◌≡◌, ◌∙◌, ℕ, ℤ, Bool, List, ◌++◌, Option, Some, ap, sym, subst, drop, take, length, IsTrue}
use Rattle.std.proofs.lemmas.List.{take-append-le, take_all}
use Rattle.vx_rows.specs.declared.dtype.DType.{DType}
use Rattle.vx_rows.specs.declared.value.Value.{Value, Int}
use Rattle.vx_rows.specs.Fits.{row_fits, rows_fit}
use Rattle.vx_base.specs.Column.{Flat, IsFlat}
use Rattle.vx_lanes.specs.Layouts.{overlaid}
use Rattle.vx_lanes.specs.declared.layout.Layout.{Layout}
use Rattle.vx_lane_compare.specs.Bits.{as_rows}
use Rattle.vx_scalars.specs.declared.operator.CompareOperator.{CompareOperator}
use Rattle.vx_scalars.specs.Elementwise.{compared, compared_type}
use Rattle.vx_scalars.proofs.Fitting.{fits_compared}
use Rattle.vx_job.specs.Rows.{Rows}
use Rattle.vx_column.specs.Columns.{IsSound, flat_of, rows_of, type_of}
use Rattle.vx_column.specs.declared.patched.Patched.{Patched}
use Rattle.vx_column.specs.declared.column.Column.{Column}
use Rattle.vx_column.specs.declared.column.Column.TheVariants as column
use Rattle.vx_column.proofs.Layers.{rows_patched}
use Rattle.vx_pairs.proofs.RowsFit.{lanes_fit}

-- a list that is written over in place
pub written : {A : Type 0} (len : ℕ) (items old new : List A) → len ≡ length items → old ≡ items → length new ≡ length old → take len (new ++ drop (length new) items) ≡ new
written len items old new e same f =
    let long = ap length same in
    take-append-le len new (drop (length new) items) (omega (arith, long)) ∙ take_all len new (omega (arith, long))

pub lanes_compared : (p : Patched Column) (op : CompareOperator) (b : ℤ) (value : Option Value) (inner : Flat) (lanes : Layout) (old new : List (Option Bool)) → inner ≡ flat_of p.inner → lanes ≡ p.lanes → value ≡ Some (Int b) →
    as_rows old ≡ compared op (Some (Int b)) inner.rows → ((rows : Rows) → as_rows old ≡ compared op (Some (Int b)) rows → as_rows new ≡ compared op (Some (Int b)) (overlaid lanes rows)) →
    as_rows new ≡ compared op value (rows_of (column.Patched p))
lanes_compared p op b value inner lanes old new ei el ev bits means =
    means inner.rows bits
    ∙ ap (λ (l : Layout). compared op (Some (Int b)) (overlaid l inner.rows)) el
    ∙ ap (λ (f : Flat). compared op (Some (Int b)) (overlaid p.lanes f.rows)) ei
    ∙ ap (compared op (Some (Int b))) (sym (rows_patched p))
    ∙ ap (λ (v : Option Value). compared op v (rows_of (column.Patched p))) (sym ev)

pub truths_fit : (p : Patched Column) (op : CompareOperator) (s : DType) (value : Option Value) (inner : Flat) → IsSound (column.Patched p) → IsFlat p.lanes.patch_values → inner ≡ flat_of p.inner → IsFlat inner → IsTrue (row_fits s value) →
    IsTrue (rows_fit (compared_type (type_of (column.Patched p)) s) (compared op value (rows_of (column.Patched p))))
truths_fit p op s value inner sound values same fits own =
    fits_compared op (type_of (column.Patched p)) s value (rows_of (column.Patched p)) own (lanes_fit p sound values (subst IsFlat same fits))
