-- Columns that are selections of a whole.
use Rattle.std.proofs.Common.{arith, refl, sym, ◌∙◌, ap, subst, ◌≡◌, ◌≤◌, ◌+◌, ◌*◌, ℕ, List, length}
use Rattle.std.proofs.Math.Nat.{mul-le-mul, le_refl}
use Rattle.std.specs.List.{range_with_len}
use Rattle.vx_rows.specs.declared.dtype.DType.{DType}
use Rattle.vx_base.specs.Column.{flat}
use Rattle.vx_job.specs.Rows.{Rows, picked as rows_at}
use Rattle.vx_column.specs.Columns.{IsSound, rows_of, type_of, point_cost, cut_cost, lane_cost, select_bound}
use Rattle.vx_column.specs.declared.column.Column.{Column}
use Rattle.vx_column.specs.declared.column.Column.TheVariants as column
use Rattle.vx_column.proofs.Layers.{type_flat, rows_flat, point_flat, cut_flat, lane_flat, point_least, each_plain}
use Rattle.vx_column.proofs.Lists.{sublist_whole}
use Rattle.vx_select.specs.Chosen.{IsSelectionOf}
use Rattle.vx_select.proofs.Ranges.{picked_range}

-- a flat column costs no more than any
pub flat_selection : (whole part : Column) (t : DType) (rows : Rows) → part ≡ column.Flat (flat t rows) → IsSound part → IsSelectionOf whole t rows part
flat_selection whole part t rows e s = record {
  sound = s;
  dtype = ap type_of e ∙ type_flat (flat t rows);
  is = ap rows_of e ∙ rows_flat (flat t rows);
  point = omega (arith, ap point_cost e, point_flat (flat t rows), point_least whole);
  cut = omega (arith, ap cut_cost e, cut_flat (flat t rows));
  lanes = omega (arith, ap lane_cost e, lane_flat (flat t rows));
  plain = λ all. each_plain part;
}

pub whole_selection : (whole part : Column) (rows : Rows) → part ≡ whole → IsSound whole → rows ≡ rows_of whole → IsSelectionOf whole (type_of whole) rows part
whole_selection whole part rows e s is = subst (λ (x : Column). IsSelectionOf whole (type_of whole) rows x) (sym e) (record {
  sound = s;
  dtype = refl;
  is = sym is;
  point = omega arith;
  cut = omega arith;
  lanes = omega arith;
  plain = λ all. all;
})

-- the rows at all places
pub all_rows : (rows : Rows) (places : List ℕ) → places ≡ range_with_len 0 (length rows) → rows_at rows places ≡ rows
all_rows rows places e =
    ap (rows_at rows) e ∙ picked_range rows 0 (length rows) (omega arith) ∙ sublist_whole rows (0 + length rows) (omega arith)

pub same_rows : (whole : Column) (t : DType) (rows other : Rows) (part : Column) → rows ≡ other → IsSelectionOf whole t rows part → IsSelectionOf whole t other part
same_rows whole t rows other part e is = subst (λ (r : Rows). IsSelectionOf whole t r part) e is

pub same_type : (whole : Column) (t u : DType) (rows : Rows) (part : Column) → t ≡ u → IsSelectionOf whole t rows part → IsSelectionOf whole u rows part
same_type whole t u rows part e is = subst (λ (v : DType). IsSelectionOf whole v rows part) e is

-- more rows may cost more
pub within_more : (x : Column) (n m old new : ℕ) → n ≤ m → new ≤ old + select_bound x n → new ≤ old + select_bound x m
within_more x n m old new h rise =
    let few : 8 * n ≤ 8 * m = omega arith in
    omega (arith, rise, mul-le-mul few (le_refl (point_cost x)))
