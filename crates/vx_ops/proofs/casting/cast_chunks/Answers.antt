use Rattle.std.proofs.Common.{◌≡◌, refl, sym, subst, inl, IsTrue}
use Rattle.std.specs.List.{All}
use Rattle.std.proofs.lemmas.Result.{IfOk-weaker, IfErr-weaker}
use Rattle.vx_rows.specs.declared.dtype.DType.{DType}
use Rattle.vx_rows.specs.declared.error.ColumnError.TheVariants.{OutOfMemory}
use Rattle.vx_rows.specs.Fits.{rows_fit}
use Rattle.vx_base.specs.Column.{flat}
use Rattle.vx_elementwise.specs.Causes.{CastCause}
use Rattle.vx_column.specs.Columns.{flat_of, rows_of, IsOf, IsSound}
use Rattle.vx_column.specs.declared.column.Column.TheVariants as column
use Rattle.vx_ops.specs.Chunks.{rows_in}
use Rattle.vx_ops.proofs.Gains.{all_sound, all_typed, few_rows, made_flat}
use Rattle.vx_ops.proofs.casting.cast_chunks.Goals as goal

pub chunked-requires-clause-sound : goal.chunked-requires-clause-sound
chunked-requires-clause-sound g c = all_sound c.args.dtype.now (rows_of (column.Chunked c.args.array.now)) c.in_ok-chunks.chunks.items c.in_ok-chunks.ensures.ok

pub chunked-requires-clause-types : goal.chunked-requires-clause-types
chunked-requires-clause-types g c =
    subst (λ (t : DType). All (IsOf t) c.in_ok-chunks.chunks.items) (sym c.in_ok-dtype.ensures.ok)
    (all_typed c.args.dtype.now (rows_of (column.Chunked c.args.array.now)) c.in_ok-chunks.chunks.items c.in_ok-chunks.ensures.ok)

pub chunked-requires-clause-fits : goal.chunked-requires-clause-fits
chunked-requires-clause-fits g c =
    few_rows c.args.array.now c.args.dtype.now (rows_of (column.Chunked c.args.array.now)) c.in_ok-chunks.chunks.items c.requires.sound refl c.in_ok-chunks.ensures.ok

pub returns-clause-ok : goal.returns-clause-ok
returns-clause-ok g c =
    let rows = rows_of (column.Chunked c.args.array.now) in
    let chunks = c.in_ok-chunks.chunks.items in
    IfOk-weaker c.chunked.result (λ x. flat_of x ≡ flat c.in_ok-dtype.dtype (rows_in chunks)) (λ x. flat_of x ≡ flat c.args.dtype.now rows)
    (λ x is. made_flat c.args.dtype.now c.in_ok-dtype.dtype rows chunks x c.in_ok-chunks.ensures.ok c.in_ok-dtype.ensures.ok is) c.chunked.ensures.ok

pub returns-clause-fits : goal.returns-clause-fits
returns-clause-fits g c =
    IfOk-weaker c.chunked.result IsSound (λ _. IsTrue (rows_fit c.args.dtype.now (rows_of (column.Chunked c.args.array.now)))) (λ x s. c.in_ok-chunks.ensures.fits) c.chunked.ensures.sound

pub returns-clause-err : goal.returns-clause-err
returns-clause-err g c =
    IfErr-weaker c.chunked.result (λ e. e ≡ OutOfMemory) (CastCause c.args.dtype.now (rows_of (column.Chunked c.args.array.now))) (λ e memory. inl memory) c.chunked.ensures.err
