use Rattle.std.proofs.Common.{◌^◌, ◌<◌, List, arith, subst, inl}
use Rattle.std.proofs.lemmas.Result.{err_from_is_err_and}
use Rattle.vx_column.specs.declared.column.Column.{Column}
use Rattle.vx_metadata.specs.Chunked.{IsChunkedFault, IsChunkedForm}
use Rattle.vx_metadata.proofs.ChunkedBack.{chunked_back, chunked_back_err, made_cause, made_len}
use Rattle.vx_metadata.proofs.chunked.ChunkedColumnSerializeChunked.deserialize.Goals as goal

pub returns-in_err-check-clause-back : goal.returns-in_err-check-clause-back
returns-in_err-check-clause-back g c =
    let a = c.args in
    let e = c.in_err-check.field-0.0 in
    let p = err_from_is_err_and c.from_residual.result c.from_residual.ensures.1 in
    let fault = subst (λ (cs : List Column). IsChunkedFault a.dtype a.len a.metadata.now a.chunk_offsets cs e) c.as_slice.ensures.value c.in_err-check.ensures.err in
    λ array s is. rw (p.1, p.2) (chunked_back_err array a.dtype a.len a.metadata.now a.chunk_offsets a.chunks.items s is e (inl fault))

pub returns-clause-len : goal.returns-clause-len
returns-clause-len g c =
    let a = c.args in
    let form = subst (λ (cs : List Column). IsChunkedForm a.dtype a.len a.metadata.now a.chunk_offsets cs) c.as_slice.ensures.value c.in_ok-check.ensures.ok in
    made_len a.dtype a.len a.metadata.now a.chunk_offsets a.chunks.items form c.try_new.result c.try_new.ensures.chunks

pub returns-clause-err : goal.returns-clause-err
returns-clause-err g c =
    let a = c.args in
    let form = subst (λ (cs : List Column). IsChunkedForm a.dtype a.len a.metadata.now a.chunk_offsets cs) c.as_slice.ensures.value c.in_ok-check.ensures.ok in
    let short : a.len < 2 ^ 64 = omega arith in
    made_cause a.dtype a.len a.metadata.now a.chunk_offsets a.chunks.items short form c.try_new.result c.try_new.ensures.err

pub returns-clause-back : goal.returns-clause-back
returns-clause-back g c =
    let a = c.args in
    λ array s is. chunked_back array a.dtype a.len a.metadata.now a.chunk_offsets a.chunks.items s is c.try_new.result c.try_new.ensures.chunks (returns-clause-err g c)
