-- Why a cast of chunks is refused.
use Rattle.std.proofs.Common.{◌≡◌, ◌<◌, ◌+◌, IsTrue, ℕ, List, ◌∷◌, ◌++◌, inl, inr, ap, sym, subst, ◌∙◌, drop, get_or, length, take}
use Rattle.std.proofs.lemmas.Bool.{and_from}
use Rattle.std.proofs.lemmas.List.Folds.{list_all-append}
use Rattle.vx_rows.specs.Fits.{row_fits, rows_fit}
use Rattle.vx_rows.specs.declared.dtype.DType.{DType}
use Rattle.vx_rows.specs.declared.error.ColumnError.{ColumnError}
use Rattle.vx_elementwise.specs.Causes.{CastCause}
use Rattle.vx_job.specs.Rows.{Rows}
use Rattle.vx_scalars.specs.Elementwise.{IsMisfitAt}
use Rattle.vx_scalars.proofs.Fitting.{misfit_behind, misfit_front}
use Rattle.vx_column.specs.Columns.{rows_of}
use Rattle.vx_column.specs.declared.column.Column.{Column}
use Rattle.vx_column.proofs.Cuts.{rows-append}
use Rattle.vx_column.proofs.Lists.{split_at}
use Rattle.vx_ops.specs.Causes.{CauseBehind}
use Rattle.vx_ops.specs.Chunks.{rows_in}

-- a row of a chunk that doesn't fit is one of all rows, behind those before the chunk
pub misfit_in : (t : DType) (xs : List Column) (k : ℕ) (x : Column) (before : ℕ) (all : Rows) (e : ColumnError) → k < length xs → x ≡ get_or xs k x → before ≡ length (rows_in (take k xs)) → rows_in xs ≡ all →
    CauseBehind before t (rows_of x) e → CastCause t all e
misfit_in t xs k x before all e h at front is (inl memory) = inl memory
misfit_in t xs k x before all e h at front is (inr bad) =
    let first = rows_in (take k xs) in
    let rest = rows_in (drop (k + 1) xs) in
    let whole : rows_in xs ≡ first ++ (rows_of x ++ rest) = ap rows_in (split_at xs k x h at) ∙ rows-append (take k xs) (x ∷ drop (k + 1) xs) in
    let inside = misfit_behind t first (rows_of x ++ rest) bad.0 (misfit_front t (rows_of x) rest bad.0 bad.1.1) in
    inr (before + bad.0, (bad.1.0, subst (λ (n : ℕ). IsMisfitAt t all (n + bad.0)) (sym front) (subst (λ (r : Rows). IsMisfitAt t r (length first + bad.0)) (sym whole ∙ is) inside)))

pub fits_append : (t : DType) (xs ys : Rows) → IsTrue (rows_fit t xs) → IsTrue (rows_fit t ys) → IsTrue (rows_fit t (xs ++ ys))
fits_append t xs ys h k = list_all-append (row_fits t) xs ys ∙ and_from (rows_fit t xs) (rows_fit t ys) h k
