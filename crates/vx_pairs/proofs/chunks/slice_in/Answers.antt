use Rattle.std.proofs.Common.{arith, ap, ◌≡◌, ◌+◌, ◌≤◌, length, map, take}
use Rattle.std.proofs.lemmas.Result.{IfOk-weaker, IfErr-weaker}
use Rattle.vx_rows.specs.declared.error.ColumnError.TheVariants.{OutOfMemory}
use Rattle.vx_base.specs.Ranges.{SliceCause}
use Rattle.vx_chunks.specs.Bounds.{total}
use Rattle.vx_column.specs.Columns.{IsSliceOf, IsSound, IsOf, len_of}
use Rattle.vx_column.specs.declared.column.Column.TheVariants as column
use Rattle.vx_column.proofs.Cuts.{same_at, held_at, len_at}
use Rattle.vx_pairs.proofs.Slices.{chunk_slice, only_memory_slice}
use Rattle.vx_pairs.proofs.chunks.slice_in.Goals as goal

pub slice-requires : goal.slice-requires
slice-requires g c =
    let k = c.args.chunk in
    held_at IsSound c.children-chunks.result.now k c.index-chunks-chunk.result c.children-chunks.ensures.sound (omega (arith, ap length c.children-chunks.ensures.value, c.requires.there)) c.index-chunks-chunk.is

pub returns-clause-ok : goal.returns-clause-ok
returns-clause-ok g c =
    let self = c.args.array.now in
    let k = c.args.chunk in
    let s = c.args.places.now.start in
    let e = c.args.places.now.end in
    let same = c.children-chunks.ensures.value in
    let x = c.index-chunks-chunk.result in
    let at_x = same_at c.children-chunks.result.now self.chunks k x same c.index-chunks-chunk.is in
    let typed = held_at (IsOf self.dtype) c.children-chunks.result.now k x c.children-chunks.ensures.types (omega (arith, ap length same, c.requires.there)) c.index-chunks-chunk.is in
    let before = total (take k (map len_of self.chunks)) in
    IfOk-weaker c.slice.result (λ part. IsSliceOf x part s e) (λ part. IsSliceOf (column.Chunked self) part (before + s) (before + e))
    (λ part slice. chunk_slice self k s e c.requires.there c.requires.some c.requires.inside x at_x typed part slice) c.slice.ensures.ok

pub returns-clause-err : goal.returns-clause-err
returns-clause-err g c =
    let self = c.args.array.now in
    let k = c.args.chunk in
    let s = c.args.places.now.start in
    let e = c.args.places.now.end in
    let x = c.index-chunks-chunk.result in
    let at_x = same_at c.children-chunks.result.now self.chunks k x c.children-chunks.ensures.value c.index-chunks-chunk.is in
    let within : e ≤ len_of x = omega (arith, c.requires.inside, len_at self.chunks k x c.requires.there at_x) in
    IfErr-weaker c.slice.result (SliceCause (len_of x) s e) (λ err. err ≡ OutOfMemory) (λ err why. only_memory_slice (len_of x) s e err (omega (arith, c.requires.some)) within why) c.slice.ensures.err
