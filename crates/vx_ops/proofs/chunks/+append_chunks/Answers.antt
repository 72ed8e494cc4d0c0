use Rattle.std.proofs.Common.{arith, refl, sym, ◌∙◌, ap, take}
use Rattle.std.proofs.lemmas.List.{take_all}
use Rattle.vx_column.specs.Columns.{rows_of, type_of, IsOf}
use Rattle.vx_column.specs.declared.column.Column.TheVariants as column
use Rattle.vx_column.proofs.Cuts.{held_at, rows_more}
use Rattle.vx_column.proofs.Layers.{rows_chunked, type_chunked}
use Rattle.vx_ops.specs.Chunks.{rows_in}
use Rattle.vx_ops.proofs.Gains.{gained_as, gained_more, gained_none}
use Rattle.vx_ops.proofs.chunks.+append_chunks.Goals as goal

pub append_chunks-loop-chunk-init : goal.append_chunks-loop-chunk-init
append_chunks-loop-chunk-init t c = gained_none (type_of (column.Chunked c.args.array.now)) c.args.out.now.items

pub append_chunks-loop-chunk-preserved : goal.append_chunks-loop-chunk-preserved
append_chunks-loop-chunk-preserved t c =
    let self = c.args.array.now in
    let xs = c.children-chunk-items.result.now in
    let k = c.loop-chunk.chunk-index in
    let x = c.chunk-item.result in
    let of = held_at (IsOf self.dtype) xs k x c.children-chunk-items.ensures.types (omega arith) c.chunk-item.is ∙ sym (type_chunked self) in
    gained_as (type_of (column.Chunked self)) (type_of (column.Chunked self)) _ _ c.args.out.now.items c.append_chunk.new.out.items refl (sym (rows_more xs k x (omega arith) c.chunk-item.is))
    (gained_more (type_of (column.Chunked self)) (rows_in (take k xs)) (rows_of x) c.args.out.now.items c.loop-chunk.out.items c.append_chunk.new.out.items c.loop-chunk.invariant
    (gained_as (type_of x) (type_of (column.Chunked self)) (rows_of x) (rows_of x) c.loop-chunk.out.items c.append_chunk.new.out.items of refl c.in_ok-append_chunk.ensures.ok))

pub append_chunks-returns-clause-ok : goal.append_chunks-returns-clause-ok
append_chunks-returns-clause-ok t c =
    let self = c.args.array.now in
    let xs = c.children-chunk-items.result.now in
    let k = c.loop-chunk.chunk-index in
    let all = ap rows_in (take_all k xs (omega arith) ∙ c.children-chunk-items.ensures.value) ∙ sym (rows_chunked self) in
    gained_as (type_of (column.Chunked self)) (type_of (column.Chunked self)) (rows_in (take k xs)) (rows_of (column.Chunked self)) c.args.out.now.items c.loop-chunk.out.items refl all c.loop-chunk.invariant
