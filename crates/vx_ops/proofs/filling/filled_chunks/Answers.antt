use Rattle.std.proofs.Common.{[], ap, refl, sym, subst, ◌∙◌, arith, IsFalse}
use Rattle.vx_rows.specs.declared.dtype.DType.{DType}
use Rattle.vx_rows.specs.Types.{AlikeTypes, is_nested}
use Rattle.vx_base.specs.Column.{flat}
use Rattle.vx_scalars.specs.Elementwise.{filled, filled_type}
use Rattle.vx_scalars.proofs.Lists.{filled_append}
use Rattle.vx_column.specs.Columns.{rows_of, type_of}
use Rattle.vx_column.specs.declared.column.Column.TheVariants as column
use Rattle.vx_ops.specs.Chunks.{rows_in}
use Rattle.vx_ops.proofs.Gains.{gained_first, mapped_all, mapped_more, typed_at}
use Rattle.vx_ops.proofs.filling.filled_chunks.Goals as goal

pub loop-chunk-init : goal.loop-chunk-init
loop-chunk-init g c = record {
  gained = gained_first (filled_type (type_of (column.Chunked c.args.array.now))) c.new-filled.result.items [] c.new-filled.ensures.items refl;
  monotone = omega arith;
}

pub filled_flat-requires-clause-plain : goal.filled_flat-requires-clause-plain
filled_flat-requires-clause-plain g c =
    let of = typed_at c.args.array.now c.in_ok-chunks.chunks.items c.as_slice-chunk-items.result.now c.loop-chunk.chunk-index c.chunk-item.result c.as_slice-chunk-items.ensures.value c.in_ok-chunks.ensures.types (omega arith) c.chunk-item.is in
    subst (λ (t : DType). IsFalse (is_nested t)) (sym of) c.requires.plain

pub filled_flat-requires-clause-types : goal.filled_flat-requires-clause-types
filled_flat-requires-clause-types g c =
    let of = typed_at c.args.array.now c.in_ok-chunks.chunks.items c.as_slice-chunk-items.result.now c.loop-chunk.chunk-index c.chunk-item.result c.as_slice-chunk-items.ensures.value c.in_ok-chunks.ensures.types (omega arith) c.chunk-item.is in
    subst (λ (t : DType). AlikeTypes t c.args.value.now.dtype) (sym of) c.requires.types

pub loop-chunk-preserved : goal.loop-chunk-preserved
loop-chunk-preserved g c =
    let self = column.Chunked c.args.array.now in
    let value = c.args.value.now.row in
    let x = c.chunk-item.result in
    let xs = c.as_slice-chunk-items.result.now in
    let k = c.loop-chunk.chunk-index in
    let of = typed_at c.args.array.now c.in_ok-chunks.chunks.items xs k x c.as_slice-chunk-items.ensures.value c.in_ok-chunks.ensures.types (omega arith) c.chunk-item.is in
    record {
      gained = mapped_more (filled value) (filled_append value) (filled_type (type_of self)) xs k x c.loop-chunk.filled.items c.push_flat.new.chunks.items c.in_ok-rows.rows (omega arith) c.chunk-item.is
          (c.in_ok-rows.ensures.ok ∙ ap (λ (t : DType). flat (filled_type t) (filled value (rows_of x))) of) c.loop-chunk.invariant.gained c.in_ok-push_flat.ensures.ok;
      monotone = omega (arith, c.loop-chunk.invariant.monotone, c.filled_flat.ensures.monotone);
    }

pub returns-clause-ok : goal.returns-clause-ok
returns-clause-ok g c =
    let self = column.Chunked c.args.array.now in
    let all = ap rows_in c.as_slice-chunk-items.ensures.value ∙ c.in_ok-chunks.ensures.rows in
    mapped_all (filled c.args.value.now.row) (filled_type (type_of self)) c.as_slice-chunk-items.result.now c.loop-chunk.chunk-index (rows_of self) c.loop-chunk.filled.items (omega arith) all c.loop-chunk.invariant.gained
