use Rattle.std.proofs.Common.{◌≡◌, ◌∙◌, ℤ, ap, sym, subst, arith, length, IsTrue, Some}
use Rattle.std.specs.Int.{w128}
use Rattle.std.proofs.lemmas.Int.{to_z-of_z}
use Rattle.std.proofs.lemmas.Result.{IfOk-weaker}
use Rattle.vx_rows.specs.declared.dtype.DType.{DType}
use Rattle.vx_rows.specs.declared.value.Value.{Int}
use Rattle.vx_rows.specs.Fits.{rows_fit}
use Rattle.vx_base.specs.Column.{Flat, IsFlat, flat}
use Rattle.vx_base.specs.Numbers.{is_integer}
use Rattle.vx_lanes.specs.Layouts.{overlaid}
use Rattle.vx_lane_compare.specs.Bits.{as_rows}
use Rattle.vx_scalars.specs.Elementwise.{compared, compared_type}
use Rattle.vx_job.specs.Rows.{Rows}
use Rattle.vx_column.specs.Columns.{flat_of, rows_of, type_of}
use Rattle.vx_column.specs.declared.column.Column.TheVariants as column
use Rattle.vx_column.proofs.Layers.{lanes_here}
use Rattle.vx_ops.proofs.LanesCompared.{lanes_compared, truths_fit, written}
use Rattle.vx_ops.proofs.Truths.{bits_long}
use Rattle.vx_ops.proofs.comparing.compared_lanes.Goals as goal

pub bits_of-requires : goal.bits_of-requires
bits_of-requires g c =
    let same = c.in_ok-inner.ensures.ok ∙ ap flat_of c.inner.ensures.value in
    subst (λ (f : Flat). IsTrue (is_integer f.dtype)) (sym same) (lanes_here c.args.array.now c.requires.sound).integers

pub compare_bits-requires : goal.compare_bits-requires
compare_bits-requires g c =
    let inner = c.in_ok-inner.inner in
    let long = ap (λ (f : Flat). length f.rows) c.in_ok-inner.ensures.ok in
    let round = to_z-of_z w128 c.args.number c.ranges.number in
    let bits = subst (λ (v : ℤ). as_rows c.in_ok-bits.bits.items ≡ compared c.args.op (Some (Int v)) inner.rows) round c.in_ok-bits.ensures.ok in
    omega (arith, ap length c.as_mut_slice.ensures.value, bits_long c.args.op c.args.number inner.rows c.in_ok-bits.bits.items bits, long, c.inner.ensures.len, c.lanes.ensures.len)

pub column_of-requires : goal.column_of-requires
column_of-requires g c =
    let p = c.args.array.now in
    let op = c.args.op in
    let s = c.args.value.now.dtype in
    let value = c.args.value.now.row in
    let inner = c.in_ok-inner.inner in
    let old = c.as_mut_slice.result.now in
    let new = c.compare_bits.new.bits in
    let items = c.in_ok-bits.bits.items in
    let round = to_z-of_z w128 c.args.number c.ranges.number in
    let bits = subst (λ (v : ℤ). as_rows items ≡ compared op (Some (Int v)) inner.rows) round c.in_ok-bits.ensures.ok in
    let means = subst (λ (v : ℤ). (rows : Rows) → as_rows old ≡ compared op (Some (Int v)) rows → as_rows new ≡ compared op (Some (Int v)) (overlaid c.lanes.result.now rows)) round c.compare_bits.ensures.means in
    let same = c.in_ok-inner.ensures.ok ∙ ap flat_of c.inner.ensures.value in
    let truths = lanes_compared p op c.args.number value inner c.lanes.result.now old new same c.lanes.ensures.value c.requires.number (ap as_rows c.as_mut_slice.ensures.value ∙ bits) means in
    let now = c.as_slice.ensures.value ∙ written c.in_ok-bits.bits.len items old new c.in_ok-bits.bits.ok.0 c.as_mut_slice.ensures.value c.compare_bits.auto.bits in
    let dtype = c.truth_type.ensures ∙ ap (λ (t : DType). compared_type t c.dtype-3.result.now) c.dtype-2.ensures ∙ ap (compared_type (type_of (column.Patched p))) c.dtype-3.ensures.dtype in
    let values = subst IsFlat c.patch_values.ensures c.dtype.ensures.fits in
    let fits = truths_fit p op s value inner c.requires.sound values same c.in_ok-inner.ensures.fits c.dtype-3.ensures.fits in
    subst (λ (t : DType). IsTrue (rows_fit t (as_rows c.as_slice.result.now))) (sym dtype)
    (subst (λ (rs : Rows). IsTrue (rows_fit (compared_type (type_of (column.Patched p)) s) rs)) (sym (ap as_rows now ∙ truths)) fits)

pub returns-clause-ok : goal.returns-clause-ok
returns-clause-ok g c =
    let p = c.args.array.now in
    let op = c.args.op in
    let s = c.args.value.now.dtype in
    let value = c.args.value.now.row in
    let inner = c.in_ok-inner.inner in
    let old = c.as_mut_slice.result.now in
    let new = c.compare_bits.new.bits in
    let items = c.in_ok-bits.bits.items in
    let round = to_z-of_z w128 c.args.number c.ranges.number in
    let bits = subst (λ (v : ℤ). as_rows items ≡ compared op (Some (Int v)) inner.rows) round c.in_ok-bits.ensures.ok in
    let means = subst (λ (v : ℤ). (rows : Rows) → as_rows old ≡ compared op (Some (Int v)) rows → as_rows new ≡ compared op (Some (Int v)) (overlaid c.lanes.result.now rows)) round c.compare_bits.ensures.means in
    let same = c.in_ok-inner.ensures.ok ∙ ap flat_of c.inner.ensures.value in
    let truths = lanes_compared p op c.args.number value inner c.lanes.result.now old new same c.lanes.ensures.value c.requires.number (ap as_rows c.as_mut_slice.ensures.value ∙ bits) means in
    let now = c.as_slice.ensures.value ∙ written c.in_ok-bits.bits.len items old new c.in_ok-bits.bits.ok.0 c.as_mut_slice.ensures.value c.compare_bits.auto.bits in
    let dtype = c.truth_type.ensures ∙ ap (λ (t : DType). compared_type t c.dtype-3.result.now) c.dtype-2.ensures ∙ ap (compared_type (type_of (column.Patched p))) c.dtype-3.ensures.dtype in
    IfOk-weaker c.column_of.result (λ rows. rows ≡ flat c.truth_type.result (as_rows c.as_slice.result.now)) (λ rows. rows ≡ flat (compared_type (type_of (column.Patched p)) s) (compared op value (rows_of (column.Patched p))))
    (λ rows is. is ∙ ap (λ (t : DType). flat t (as_rows c.as_slice.result.now)) dtype ∙ ap (flat (compared_type (type_of (column.Patched p)) s)) (ap as_rows now ∙ truths)) c.column_of.ensures.ok
