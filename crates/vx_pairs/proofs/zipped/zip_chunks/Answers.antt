use Rattle.std.proofs.Common.{ap, sym, subst, ◌∙◌, ◌≡◌, length}
use Rattle.std.proofs.lemmas.Result.{IfOk-weaker, IfErr-weaker}
use Rattle.std.specs.List.{All}
use Rattle.vx_rows.specs.declared.dtype.DType.{DType}
use Rattle.vx_rows.specs.declared.error.ColumnError.TheVariants.{OutOfMemory}
use Rattle.vx_base.specs.Column.{flat}
use Rattle.vx_scalars.specs.Elementwise.{chosen, chosen_type}
use Rattle.vx_scalars.proofs.Lists.{length_chosen}
use Rattle.vx_column.specs.Columns.{flat_of, rows_of, type_of, chunks_of, declared_type, IsOf, ChunksCause}
use Rattle.vx_column.specs.declared.chunked.Chunked.{Chunked}
use Rattle.vx_column.specs.declared.column.Column.{Column}
use Rattle.vx_column.specs.declared.column.Column.TheVariants as column
use Rattle.vx_column.proofs.Layers.{type_chunked}
use Rattle.vx_pairs.proofs.Arrays.{array_is, only_memory_chunks, rows_fit_in}
use Rattle.vx_pairs.proofs.zipped.zip_chunks.Goals as goal

pub returns-clause-ok : goal.returns-clause-ok
returns-clause-ok g c =
    let left = c.args.left.now in
    let right = c.args.right.now in
    let xs = c.in_ok-chunks.chunks.items in
    let t = chosen_type (type_of (column.Chunked left)) (type_of (column.Chunked right)) in
    let rows = chosen (rows_of (column.Chunked left)) (rows_of (column.Chunked right)) c.args.choice.now in
    let of_left = c.dtype.ensures ∙ sym (type_chunked left) in
    let of_right = c.dtype-2.ensures ∙ sym (type_chunked right) in
    let typed = c.in_ok-dtype.ensures.ok ∙ (λ i. chosen_type (of_left i) (of_right i)) in
    IfOk-weaker c.try_new.result (λ (a : Chunked Column). (chunks_of a ≡ xs) × (declared_type a ≡ c.in_ok-dtype.dtype)) (λ (a : Chunked Column). flat_of (column.Chunked a) ≡ flat t rows)
    (λ a made. array_is a xs t rows made.0 (made.1 ∙ typed) c.in_ok-chunks.ensures.rows) c.try_new.ensures.chunks

pub returns-clause-err : goal.returns-clause-err
returns-clause-err g c =
    let left = c.args.left.now in
    let right = c.args.right.now in
    let xs = c.in_ok-chunks.chunks.items in
    let of_left = c.dtype.ensures ∙ sym (type_chunked left) in
    let of_right = c.dtype-2.ensures ∙ sym (type_chunked right) in
    let typed = c.in_ok-dtype.ensures.ok ∙ (λ i. chosen_type (of_left i) (of_right i)) in
    let types = subst (λ (t : DType). All (IsOf t) xs) (sym typed) c.in_ok-chunks.ensures.types in
    let long = ap length c.in_ok-chunks.ensures.rows ∙ length_chosen (rows_of (column.Chunked left)) (rows_of (column.Chunked right)) c.args.choice.now c.requires.paired c.requires.long in
    let fits = rows_fit_in left xs c.requires.sound long in
    IfErr-weaker c.try_new.result (ChunksCause c.in_ok-dtype.dtype xs) (λ e. e ≡ OutOfMemory) (λ e why. only_memory_chunks c.in_ok-dtype.dtype xs e fits types why) c.try_new.ensures.err
