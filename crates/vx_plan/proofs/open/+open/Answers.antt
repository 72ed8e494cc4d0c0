use Rattle.std.proofs.Common.{◌+◌, List, map, take, sym, ◌∙◌, subst, arith, None}
use Rattle.std.specs.List.{All}
use Rattle.std.proofs.lemmas.Result.{err_from_is_err_and}
use Rattle.vx_rows.specs.declared.dtype.DType.{DType}
use Rattle.vx_patches.specs.Making.{made as made_of}
use Rattle.vx_lanes.specs.Layouts.{layout}
use Rattle.vx_interleave.specs.Selections.{selection}
use Rattle.vx_column.specs.Columns.{type_of, len_of, IsOf, ChunksCause}
use Rattle.vx_column.specs.declared.column.Column.{Column}
use Rattle.vx_plan.specs.Opened.{AreOpened}
use Rattle.vx_plan.proofs.Opened.{lanes_told, exceptions_told, interleaved_told, opened_chunked, opened_lanes, opened_excepted, opened_interleaved, all_sound}
use Rattle.vx_plan.proofs.Refused.{fault_chunked, fault_interleaved, interleaved_cause, fault_at, cost_at, opened_more}
use Rattle.vx_plan.proofs.open.+open.Goals as goal

-- ---- the parts before a column is made of them are sound

pub open_chunked-try_new-requires : goal.open_chunked-try_new-requires
open_chunked-try_new-requires g t c = all_sound c.args.chunks.now c.in_ok-columns.columns.items c.in_ok-columns.ensures.ok

pub open_interleaved-try_new-requires : goal.open_interleaved-try_new-requires
open_interleaved-try_new-requires g t c = all_sound c.args.values.now c.in_ok-columns.columns.items c.in_ok-columns.ensures.ok

-- ---- refusals

pub open_chunked-returns-in_err-array-clause-err : goal.open_chunked-returns-in_err-array-clause-err
open_chunked-returns-in_err-array-clause-err g t c =
    let p = err_from_is_err_and c.from_residual-in_err-array.result c.from_residual-in_err-array.ensures.1 in
    rw (p.1, p.2) (fault_chunked c.args.dtype.now c.args.chunks.now c.in_ok-columns.columns.items c.in_err-array.field-0.0 c.in_ok-columns.ensures.ok
    (subst (λ (t : DType). ChunksCause t c.in_ok-columns.columns.items c.in_err-array.field-0.0) c.in_ok-dtype.ensures.ok c.in_err-array.ensures.err))

pub open_interleaved-returns-in_err-array-clause-err : goal.open_interleaved-returns-in_err-array-clause-err
open_interleaved-returns-in_err-array-clause-err g t c =
    let p = err_from_is_err_and c.from_residual-in_err-array.result c.from_residual-in_err-array.ensures.1 in
    rw (p.1, p.2) (fault_interleaved c.args.values.now c.args.array_indices.now c.args.row_indices.now c.in_ok-columns.columns.items c.in_err-array.field-0.0 c.in_ok-columns.ensures.ok
    (interleaved_cause (map type_of c.in_ok-columns.columns.items) (map len_of c.in_ok-columns.columns.items) c.args.array_indices.now c.in_ok-array_indices.array_indices c.args.row_indices.now c.in_ok-row_indices.row_indices
    c.in_err-array.field-0.0 c.in_ok-array_indices.ensures.ok c.in_ok-row_indices.ensures.ok c.in_err-array.ensures.err))

-- ---- columns

pub open_chunked-returns-clause-ok : goal.open_chunked-returns-clause-ok
open_chunked-returns-clause-ok g t c =
    let made = c.in_ok-array in
    opened_chunked c.args.dtype.now c.args.chunks.now c.in_ok-columns.columns.items made.array c.in_ok-columns.ensures.ok
    (made.ensures.chunks.0, made.ensures.chunks.1 ∙ c.in_ok-dtype.ensures.ok) made.ensures.sound made.ensures.fits
    (subst (λ (t : DType). All (IsOf t) c.in_ok-columns.columns.items) c.in_ok-dtype.ensures.ok made.ensures.types)

pub open_lanes-returns-clause-ok : goal.open_lanes-returns-clause-ok
open_lanes-returns-clause-ok g t c =
    let made = c.in_ok-array in
    let x = c.in_ok-inner.inner in
    let n = c.args.n_lanes in
    let o = c.args.offset in
    let lo = c.in_ok-lane_offsets in
    let is = c.in_ok-indices in
    let vs = c.in_ok-values in
    opened_lanes c.args.inner.now c.args.n_lanes c.args.offset c.args.lane_offsets.now c.args.indices.now c.args.values.now c.in_ok-inner.inner made.array c.in_ok-inner.ensures.ok
    made.ensures.inner (made.ensures.lanes ∙ (λ i. layout (len_of x) n o (lo.ensures.ok i) (is.ensures.ok i) (vs.ensures.ok i))) made.ensures.sound
    (lanes_told (type_of x) (len_of x) n o c.args.lane_offsets.now lo.lane_offsets c.args.indices.now is.indices c.args.values.now vs.values None lo.ensures.ok is.ensures.ok vs.ensures.ok made.ensures.clean)

pub open_excepted-returns-clause-ok : goal.open_excepted-returns-clause-ok
open_excepted-returns-clause-ok g t c =
    let made = c.in_ok-array in
    let x = c.in_ok-base.base in
    let v = c.in_ok-values.values in
    let o = c.args.offset in
    let is = c.in_ok-indices in
    let co = c.in_ok-chunk_offsets in
    opened_excepted c.args.base.now c.args.offset c.args.indices.now c.args.values.now c.args.chunk_offsets.now c.in_ok-base.base c.in_ok-values.values made.array c.in_ok-base.ensures.ok c.in_ok-values.ensures.ok
    made.ensures.base made.ensures.values (made.ensures.index ∙ (λ i. made_of (len_of x) o (is.ensures.ok i) (co.ensures.ok i))) made.ensures.sound
    (exceptions_told (type_of x) (len_of x) o c.args.indices.now is.indices (type_of v) (len_of v) c.args.chunk_offsets.now co.chunk_offsets None is.ensures.ok co.ensures.ok made.ensures.clean)

pub open_interleaved-returns-clause-ok : goal.open_interleaved-returns-clause-ok
open_interleaved-returns-clause-ok g t c =
    let made = c.in_ok-array in
    opened_interleaved c.args.values.now c.args.array_indices.now c.args.row_indices.now c.in_ok-columns.columns.items made.array c.in_ok-columns.ensures.ok
    made.ensures.values (made.ensures.selectors ∙ (λ i. selection (c.in_ok-array_indices.ensures.ok i) (c.in_ok-row_indices.ensures.ok i))) made.ensures.sound
    (interleaved_told (map type_of c.in_ok-columns.columns.items) (map len_of c.in_ok-columns.columns.items) c.args.array_indices.now c.in_ok-array_indices.array_indices c.args.row_indices.now c.in_ok-row_indices.row_indices None
    c.in_ok-array_indices.ensures.ok c.in_ok-row_indices.ensures.ok made.ensures.clean)

-- ---- a list of parts

pub open_all-returns-in_err-open_child-clause-err : goal.open_all-returns-in_err-open_child-clause-err
open_all-returns-in_err-open_child-clause-err g t c =
    let at = c.loop-number in
    let p = err_from_is_err_and c.from_residual.result c.from_residual.ensures.1 in
    rw (p.1, p.2) (fault_at c.args.parts.now at.number at.columns.items c.index-parts-number.result c.in_err-open_child.field-0.0 (omega arith) c.index-parts-number.is at.invariant.opened c.in_err-open_child.ensures.err)

pub open_all-returns-in_err-open_child-clause-rise : goal.open_all-returns-in_err-open_child-clause-rise
open_all-returns-in_err-open_child-clause-rise g t c =
    let at = c.loop-number in
    omega (arith, at.invariant.rise, c.open_child.ensures.rise, (cost_at c.args.parts.now at.number c.index-parts-number.result (omega arith) c.index-parts-number.is).1)

pub open_all-returns-in_err-push-clause-rise : goal.open_all-returns-in_err-push-clause-rise
open_all-returns-in_err-push-clause-rise g t c =
    let at = c.loop-number in
    omega (arith, at.invariant.rise, c.open_child.ensures.rise, (cost_at c.args.parts.now at.number c.index-parts-number.result (omega arith) c.index-parts-number.is).1)

pub open_all-loop-number-preserved : goal.open_all-loop-number-preserved
open_all-loop-number-preserved g t c =
    let at = c.loop-number in
    let parts = c.args.parts.now in
    let x = c.index-parts-number.result in
    record {
      opened = subst (λ (cs : List Column). AreOpened (take (at.number + 1) parts) cs) (sym c.in_ok-push.ensures.items)
          (opened_more parts at.number at.columns.items x c.in_ok-open_child.field-0 (omega arith) c.index-parts-number.is at.invariant.opened c.in_ok-open_child.ensures.ok);
      rise = omega (arith, at.invariant.rise, c.open_child.ensures.rise, (cost_at parts at.number x (omega arith) c.index-parts-number.is).0);
      monotone = omega (arith, c.open_child.ensures.monotone, at.invariant.monotone);
    }
