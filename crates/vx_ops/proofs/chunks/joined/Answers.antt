use Rattle.std.proofs.Common.{◌≡◌}
use Rattle.std.proofs.lemmas.Result.{IfOk-weaker, IfErr-weaker}
use Rattle.vx_rows.specs.declared.error.ColumnError.TheVariants.{OutOfMemory}
use Rattle.vx_base.specs.Column.{flat}
use Rattle.vx_column.specs.Columns.{ChunksCause, chunks_of, declared_type, flat_of}
use Rattle.vx_column.specs.declared.column.Column.TheVariants as column
use Rattle.vx_ops.specs.Chunks.{rows_in}
use Rattle.vx_ops.proofs.Gains.{joined_flat, only_memory}
use Rattle.vx_ops.proofs.chunks.joined.Goals as goal

pub returns-clause-ok : goal.returns-clause-ok
returns-clause-ok c =
    let xs = c.args.chunks.items in
    IfOk-weaker c.try_new.result (λ array. (chunks_of array ≡ xs) × (declared_type array ≡ c.args.dtype)) (λ array. flat_of (column.Chunked array) ≡ flat c.args.dtype (rows_in xs))
    (λ array made. joined_flat array c.args.dtype xs made.0 made.1) c.try_new.ensures.chunks

pub returns-clause-err : goal.returns-clause-err
returns-clause-err c =
    IfErr-weaker c.try_new.result (ChunksCause c.args.dtype c.args.chunks.items) (λ e. e ≡ OutOfMemory)
    (λ e cause. only_memory c.args.dtype c.args.chunks.items e c.requires.types c.requires.fits cause) c.try_new.ensures.err
