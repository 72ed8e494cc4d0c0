use Rattle.std.proofs.Common.{ap, sym, ◌∙◌, ◌≡◌, length, map, List, Option}
use Rattle.std.proofs.lemmas.List.{length-map}
use Rattle.std.proofs.lemmas.Result.{IfOk-weaker, IfErr-weaker}
use Rattle.vx_rows.specs.declared.value.Value.{Value}
use Rattle.vx_rows.specs.declared.error.ColumnError.TheVariants.{OutOfMemory}
use Rattle.vx_job.specs.Rows.{joined}
use Rattle.vx_column.specs.Columns.{rows_of, chunks_of, declared_type, ChunksCause}
use Rattle.vx_column.specs.declared.chunked.Chunked.{Chunked}
use Rattle.vx_column.specs.declared.column.Column.{Column}
use Rattle.vx_column.specs.declared.column.Column.TheVariants as column
use Rattle.vx_column.proofs.Layers.{rows_chunked}
use Rattle.vx_pairs.proofs.Arrays.{only_memory_chunks, rows_fit_in}
use Rattle.vx_pairs.proofs.Pushes.{pushed_rows}
use Rattle.vx_pairs.proofs.push.push_typed.Goals as goal

pub returns-clause-rows : goal.returns-clause-rows
returns-clause-rows g c =
    let whole = c.args.column.now in
    let f : Option Value → Option Value = λ row. g.F.RowFn.value_of c.args.f.now row c.args.siblings.now in
    let xs = c.in_ok-chunks.chunks.items in
    let all = ap joined c.in_ok-chunks.ensures.rows ∙ pushed_rows f whole.chunks ∙ ap (map f) (sym (rows_chunked whole)) in
    IfOk-weaker c.try_new.result (λ (a : Chunked Column). (chunks_of a ≡ xs) × (declared_type a ≡ c.args.out)) (λ (a : Chunked Column). rows_of (column.Chunked a) ≡ map f (rows_of (column.Chunked whole)))
    (λ a made. rows_chunked a ∙ ap (λ (ys : List Column). joined (map rows_of ys)) made.0 ∙ all) c.try_new.ensures.chunks

pub returns-clause-err : goal.returns-clause-err
returns-clause-err g c =
    let whole = c.args.column.now in
    let f : Option Value → Option Value = λ row. g.F.RowFn.value_of c.args.f.now row c.args.siblings.now in
    let xs = c.in_ok-chunks.chunks.items in
    let all = ap joined c.in_ok-chunks.ensures.rows ∙ pushed_rows f whole.chunks ∙ ap (map f) (sym (rows_chunked whole)) in
    let fits = rows_fit_in whole xs c.requires.sound (ap length all ∙ length-map (rows_of (column.Chunked whole)) f) in
    IfErr-weaker c.try_new.result (ChunksCause c.args.out xs) (λ e. e ≡ OutOfMemory) (λ e why. only_memory_chunks c.args.out xs e fits c.in_ok-chunks.ensures.types why) c.try_new.ensures.err
