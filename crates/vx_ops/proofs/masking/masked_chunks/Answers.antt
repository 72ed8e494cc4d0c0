use Rattle.std.proofs.Common.{◌≡◌, ◌+◌, [], ap, refl, sym, ◌∙◌, arith, length, take, length-append}
use Rattle.vx_bulk.specs.Selections.{masked}
use Rattle.vx_bulk.specs.Types.{nullable}
use Rattle.vx_column.specs.Columns.{rows_of, type_of}
use Rattle.vx_column.specs.declared.column.Column.TheVariants as column
use Rattle.vx_column.proofs.Cuts.{len_fits, rows_more}
use Rattle.vx_ops.specs.Chunks.{rows_in}
use Rattle.vx_ops.proofs.Gains.{gained_first, mapped_all, rows_within, typed_at}
use Rattle.vx_ops.proofs.Masks.{masks_more}
use Rattle.vx_ops.proofs.masking.masked_chunks.Goals as goal

pub loop-chunk-init : goal.loop-chunk-init
loop-chunk-init g c = record {
  gained = gained_first (nullable (type_of (column.Chunked c.args.array.now))) c.new-masked.result.items [] c.new-masked.ensures.items refl;
  start = refl;
  monotone = omega arith;
}

pub returns-clause-ok : goal.returns-clause-ok
returns-clause-ok g c =
    let self = column.Chunked c.args.array.now in
    let all = ap rows_in c.as_slice-chunk-items.ensures.value ∙ c.in_ok-chunks.ensures.rows in
    mapped_all (λ rows. masked rows c.args.keep.now) (nullable (type_of self)) c.as_slice-chunk-items.result.now c.loop-chunk.chunk-index (rows_of self) c.loop-chunk.masked.items (omega arith) all c.loop-chunk.invariant.gained

pub overflow_add-end : goal.overflow_add-end
overflow_add-end g c =
    let all = ap (λ ys. length (rows_in ys)) c.as_slice-chunk-items.ensures.value ∙ ap length c.in_ok-chunks.ensures.rows in
    let within = rows_within c.as_slice-chunk-items.result.now c.loop-chunk.chunk-index c.chunk-item.result (omega arith) c.chunk-item.is in
    omega (arith, all, within, c.loop-chunk.invariant.start, c.len.ensures, len_fits c.args.array.now c.requires.sound)

pub slice_bounds-masked_flat-end : goal.slice_bounds-masked_flat-end
slice_bounds-masked_flat-end g c =
    let all = ap (λ ys. length (rows_in ys)) c.as_slice-chunk-items.ensures.value ∙ ap length c.in_ok-chunks.ensures.rows in
    let within = rows_within c.as_slice-chunk-items.result.now c.loop-chunk.chunk-index c.chunk-item.result (omega arith) c.chunk-item.is in
    omega (arith, all, within, c.loop-chunk.invariant.start, c.len.ensures, c.requires.long)

pub loop-chunk-preserved : goal.loop-chunk-preserved
loop-chunk-preserved g c =
    let t = type_of (column.Chunked c.args.array.now) in
    let keep = c.args.keep.now in
    let xs = c.as_slice-chunk-items.result.now in
    let k = c.loop-chunk.chunk-index in
    let x = c.chunk-item.result in
    let start = c.loop-chunk.start in
    let end = start + c.len.result in
    let of = typed_at c.args.array.now c.in_ok-chunks.chunks.items xs k x c.as_slice-chunk-items.ensures.value c.in_ok-chunks.ensures.types (omega arith) c.chunk-item.is in
    let long : length keep ≡ length (rows_in xs) = c.requires.long ∙ sym (ap length c.in_ok-chunks.ensures.rows) ∙ sym (ap (λ ys. length (rows_in ys)) c.as_slice-chunk-items.ensures.value) in
    let more = ap length (rows_more xs k x (omega arith) c.chunk-item.is) ∙ length-append (rows_in (take k xs)) (rows_of x) in
    record {
      gained = masks_more t xs k x keep start end c.loop-chunk.masked.items c.push_flat.new.chunks.items c.in_ok-rows.rows (omega arith) c.chunk-item.is of long c.loop-chunk.invariant.start (ap (λ n. start + n) c.len.ensures)
          c.in_ok-rows.ensures.ok c.loop-chunk.invariant.gained c.in_ok-push_flat.ensures.ok;
      start = omega (arith, more, c.loop-chunk.invariant.start, c.len.ensures);
      monotone = omega (arith, c.loop-chunk.invariant.monotone, c.masked_flat.ensures.monotone);
    }
