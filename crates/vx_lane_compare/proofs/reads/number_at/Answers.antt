use Rattle.std.proofs.Common.{◌≡◌, ◌∙◌, sym, ap, arith, rules, get_or, None, Some, true, to_z, of_z}
use Rattle.std.specs.Int.{w128}
use Rattle.vx_rows.specs.declared.value.Value.{Int}
use Rattle.vx_rows.specs.Fits.{rows_fit}
use Rattle.vx_base.specs.Column.{Flat}
use Rattle.vx_base.specs.Numbers.{row_int}
use Rattle.vx_lanes.specs.Layouts.{value_of}
use Rattle.vx_lanes.proofs.Columns.{exception_value}
use Rattle.vx_lane_compare.proofs.Integers.{number_there, row_is}
use Rattle.vx_lane_compare.proofs.reads.number_at.Goals as goal

pub unreachable-requires : goal.unreachable-requires
unreachable-requires g c =
    let l = c.args.lanes.now in
    let s = c.len.ensures.layout in
    let none : row_int (value_of l c.args.exception) ≡ None =
    ap (λ (f : Flat). row_int (get_or f.rows c.args.exception None)) (sym c.patch_values-values.ensures) ∙ sym c.int_at.ensures.value ∙ c.in-None.is in
    let fits : rows_fit l.patch_values.dtype l.patch_values.rows ≡ true = ap (λ (f : Flat). rows_fit f.dtype f.rows) (sym c.patch_values-values.ensures) ∙ c.dtype.ensures.fits in
    number_there l.patch_values.dtype l.patch_values.rows c.args.exception fits s.integers (omega (arith, s.paired)) (exception_value l c.args.exception s c.requires) none

pub returns-clause-number : goal.returns-clause-number
returns-clause-number g c =
    let l = c.args.lanes.now in
    let same : to_z w128 (of_z w128 c.in-Some.number) ≡ c.in-Some.number = search rules in
    let there : row_int (value_of l c.args.exception) ≡ Some c.in-Some.number =
    ap (λ (f : Flat). row_int (get_or f.rows c.args.exception None)) (sym c.patch_values-values.ensures) ∙ sym c.int_at.ensures.value ∙ c.in-Some.is in
    row_is (value_of l c.args.exception) c.in-Some.number there ∙ ap (λ z. Some (Int z)) (sym same)
