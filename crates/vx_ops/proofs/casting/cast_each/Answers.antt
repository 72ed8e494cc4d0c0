use Rattle.std.proofs.Common.{[], ap, refl, sym, subst, ◌∙◌, arith, IsTrue, length, length-append, take}
use Rattle.std.proofs.lemmas.List.{take_all}
use Rattle.std.proofs.lemmas.Result.{err_from_is_err_and}
use Rattle.vx_rows.specs.Fits.{rows_fit}
use Rattle.vx_base.specs.Column.{Flat}
use Rattle.vx_job.specs.Rows.{Rows}
use Rattle.vx_scalars.specs.Elementwise.{IsInteger}
use Rattle.vx_column.specs.Columns.{rows_of}
use Rattle.vx_column.specs.declared.column.Column.TheVariants as column
use Rattle.vx_column.proofs.Cuts.{len_fits, rows_more}
use Rattle.vx_ops.specs.Chunks.{rows_in}
use Rattle.vx_ops.proofs.Gains.{gained_first, mapped_all, mapped_more, rows_within, typed_at}
use Rattle.vx_ops.proofs.Casts.{fits_append, misfit_in}
use Rattle.vx_ops.proofs.casting.cast_each.Goals as goal

pub loop-chunk-init : goal.loop-chunk-init
loop-chunk-init g c = record {
  gained = gained_first c.args.dtype.now c.new-cast.result.items [] c.new-cast.ensures.items refl;
  fits = refl;
  before = refl;
  monotone = omega arith;
}

pub cast_behind-requires-clause-own : goal.cast_behind-requires-clause-own
cast_behind-requires-clause-own g c =
    let of = typed_at c.args.array.now c.in_ok-chunks.chunks.items c.as_slice-chunk-items.result.now c.loop-chunk.chunk-index c.chunk-item.result c.as_slice-chunk-items.ensures.value c.in_ok-chunks.ensures.types (omega arith) c.chunk-item.is in
    subst IsInteger (sym of) c.requires.own

pub cast_behind-requires-clause-inside : goal.cast_behind-requires-clause-inside
cast_behind-requires-clause-inside g c =
    let xs = c.as_slice-chunk-items.result.now in
    let all = ap (λ ys. length (rows_in ys)) c.as_slice-chunk-items.ensures.value ∙ ap length c.in_ok-chunks.ensures.rows in
    omega (arith, all, rows_within xs c.loop-chunk.chunk-index c.chunk-item.result (omega arith) c.chunk-item.is, c.loop-chunk.invariant.before, len_fits c.args.array.now c.requires.sound)

pub overflow_add-before : goal.overflow_add-before
overflow_add-before g c =
    let xs = c.as_slice-chunk-items.result.now in
    let all = ap (λ ys. length (rows_in ys)) c.as_slice-chunk-items.ensures.value ∙ ap length c.in_ok-chunks.ensures.rows in
    omega (arith, all, rows_within xs c.loop-chunk.chunk-index c.chunk-item.result (omega arith) c.chunk-item.is, c.loop-chunk.invariant.before, c.len-before.ensures, len_fits c.args.array.now c.requires.sound)

pub returns-in_err-rows-clause-err : goal.returns-in_err-rows-clause-err
returns-in_err-rows-clause-err g c =
    let p = err_from_is_err_and c.from_residual-in_err-rows.result c.from_residual-in_err-rows.ensures.1 in
    let all = ap rows_in c.as_slice-chunk-items.ensures.value ∙ c.in_ok-chunks.ensures.rows in
    rw (p.1, p.2) (misfit_in c.args.dtype.now c.as_slice-chunk-items.result.now c.loop-chunk.chunk-index c.chunk-item.result c.loop-chunk.before (rows_of (column.Chunked c.args.array.now)) c.in_err-rows.field-0.0
    (omega arith) c.chunk-item.is c.loop-chunk.invariant.before all c.in_err-rows.ensures.err)

pub loop-chunk-preserved : goal.loop-chunk-preserved
loop-chunk-preserved g c =
    let t = c.args.dtype.now in
    let x = c.chunk-item.result in
    let xs = c.as_slice-chunk-items.result.now in
    let k = c.loop-chunk.chunk-index in
    let rows = c.in_ok-rows.rows in
    let more = rows_more xs k x (omega arith) c.chunk-item.is in
    let fits = subst (λ (r : Flat). IsTrue (rows_fit r.dtype r.rows)) c.in_ok-rows.ensures.ok c.in_ok-rows.ensures.fits in
    record {
      gained = mapped_more (λ (r : Rows). r) (λ a b. refl) t xs k x c.loop-chunk.cast.items c.push_flat.new.chunks.items rows (omega arith) c.chunk-item.is c.in_ok-rows.ensures.ok c.loop-chunk.invariant.gained c.in_ok-push_flat.ensures.ok;
      fits = subst (λ (r : Rows). IsTrue (rows_fit t r)) (sym more) (fits_append t (rows_in (take k xs)) (rows_of x) c.loop-chunk.invariant.fits fits);
      before = omega (arith, ap length more, length-append (rows_in (take k xs)) (rows_of x), c.loop-chunk.invariant.before, c.len-before.ensures);
      monotone = omega (arith, c.loop-chunk.invariant.monotone, c.cast_behind.ensures.monotone);
    }

pub returns-clause-ok : goal.returns-clause-ok
returns-clause-ok g c =
    let all = ap rows_in c.as_slice-chunk-items.ensures.value ∙ c.in_ok-chunks.ensures.rows in
    mapped_all (λ (r : Rows). r) c.args.dtype.now c.as_slice-chunk-items.result.now c.loop-chunk.chunk-index (rows_of (column.Chunked c.args.array.now)) c.loop-chunk.cast.items (omega arith) all c.loop-chunk.invariant.gained

pub returns-clause-fits : goal.returns-clause-fits
returns-clause-fits g c =
    let xs = c.as_slice-chunk-items.result.now in
    let all = ap rows_in (take_all c.loop-chunk.chunk-index xs (omega arith)) ∙ ap rows_in c.as_slice-chunk-items.ensures.value ∙ c.in_ok-chunks.ensures.rows in
    subst (λ (r : Rows). IsTrue (rows_fit c.args.dtype.now r)) all c.loop-chunk.invariant.fits
