-- Chunked arrays that were serialized have no fault, and are read back.
use Rattle.std.proofs.Common.{◌≡◌, ℕ, ◌^◌, ◌<◌, List, [], ◌∷◌, map, sym, ◌∙◌, ap, subst, arith, inl, inr, Option, Some, None, Result, Ok, Err}
use Rattle.std.specs.Prelude.{IfOk, IfErr}
use Rattle.std.specs.List.{All}
use Rattle.vx_rows.specs.declared.dtype.DType.{DType}
use Rattle.vx_rows.specs.declared.error.Rule.{Rule}
use Rattle.vx_rows.specs.declared.error.ColumnError.{ColumnError}
use Rattle.vx_base.specs.Column.{Flat}
use Rattle.vx_chunks.specs.Bounds.{total}
use Rattle.vx_chunks.specs.Offsets.{offsets_of}
use Rattle.vx_job.specs.Rows.{joined}
use Rattle.vx_column.specs.declared.chunked.Chunked.{Chunked}
use Rattle.vx_column.specs.declared.column.Column.{Column}
use Rattle.vx_column.specs.declared.column.Column.TheVariants.{Chunked as chunked_column}
use Rattle.vx_column.specs.Columns.{rows_of, len_of, IsOf, IsSound, ChunksCause, chunks_of, declared_type}
use Rattle.vx_metadata.specs.Boundaries.{boundary_fault}
use Rattle.vx_metadata.specs.Chunked.{IsChunkFault, IsChunkedFault, IsChunkedForm, ChunkedCause, IsChunkedFormOf, IsChunkedBack}
use Rattle.vx_metadata.proofs.Bounds.{bounded_total, own_bounded}
use Rattle.vx_metadata.proofs.Layers.{rows_chunked, type_chunked, chunks_here, len_chunked}

chunks_clean : (broken : Option Rule) (t : DType) (chunks : List Column) (e : ColumnError) → broken ≡ None → All (IsOf t) chunks → IsChunkFault broken t chunks e → ⊥
chunks_clean (Some rule) t chunks e none typed fault = let wrong : Some rule ≡ None = none in absurd (cc)
chunks_clean None t chunks e none typed fault = fault.1 typed

-- where nothing is wrong there is no fault
no_fault : (t : DType) (len : ℕ) (metadata : List ℕ) (offsets : Flat) (chunks : List Column) (e : ColumnError) →
    IsChunkedForm t len metadata offsets chunks → IsChunkedFault t len metadata offsets chunks e → ⊥
no_fault t len [] offsets chunks e form fault = chunks_clean (boundary_fault len offsets (map len_of chunks)) t chunks e form.bounded form.typed fault
no_fault t len (byte ∷ bytes) offsets chunks e form fault = let wrong : byte ∷ bytes ≡ [] = form.no_bytes in absurd (cc)

module _ (array : Chunked Column) (t : DType) (len : ℕ) (metadata : List ℕ) (offsets : Flat) (chunks : List Column)
    (s : IsSound (chunked_column array)) (is : IsChunkedFormOf array t len metadata offsets chunks) where
  own_form : IsChunkedForm t len metadata offsets chunks
  own_form = record {
    no_bytes = is.metadata_is;
    bounded = (λ i. boundary_fault (is.len_is i) (is.offsets_are i) (map len_of (is.chunks_are i)))
        ∙ ap (λ (n : ℕ). boundary_fault n (offsets_of (map len_of (chunks_of array))) (map len_of (chunks_of array))) (len_chunked array)
        ∙ own_bounded (map len_of (chunks_of array));
    typed = subst (λ (u : DType). All (IsOf u) chunks) (sym is.dtype_is) (subst (λ (cs : List Column). All (IsOf (declared_type array)) cs) (sym is.chunks_are) (chunks_here array s).types);
  }

  pub chunked_back_err : (e : ColumnError) → ChunkedCause t len metadata offsets chunks e → IsChunkedBack array (Err e)
  chunked_back_err e (inl fault) = absurd (no_fault t len metadata offsets chunks e own_form fault)
  chunked_back_err e (inr memory) = memory.0

  pub chunked_back_ok : (other : Chunked Column) → (chunks_of other ≡ chunks) × (declared_type other ≡ t) → IsChunkedBack array (Ok other)
  chunked_back_ok other made = (
    type_chunked other ∙ made.1 ∙ is.dtype_is ∙ sym (type_chunked array),
    rows_chunked other ∙ ap (λ (cs : List Column). joined (map rows_of cs)) (made.0 ∙ is.chunks_are) ∙ sym (rows_chunked array),
  )

  pub chunked_back : (r : Result (Chunked Column) ColumnError) → IfOk r (λ other. (chunks_of other ≡ chunks) × (declared_type other ≡ t)) →
      IfErr r (ChunkedCause t len metadata offsets chunks) → IsChunkedBack array r
  chunked_back (Ok other) made cause = chunked_back_ok other made
  chunked_back (Err e) made cause = chunked_back_err e cause

-- the maker of chunks wants memory alone
made_cause_at : (t : DType) (len : ℕ) (metadata : List ℕ) (offsets : Flat) (chunks : List Column) → len < 2 ^ 64 → IsChunkedForm t len metadata offsets chunks →
    (e : ColumnError) → ChunksCause t chunks e → ChunkedCause t len metadata offsets chunks e
made_cause_at t len metadata offsets chunks h form e (inl memory) = inr (memory, form)
made_cause_at t len metadata offsets chunks h form e (inr (inl long)) =
    let all : total (map len_of chunks) ≡ len = bounded_total len offsets (map len_of chunks) form.bounded in
    let past = long.1 in
    absurd (omega arith)
made_cause_at t len metadata offsets chunks h form e (inr (inr typed)) = absurd (typed.2 form.typed)

pub made_cause : (t : DType) (len : ℕ) (metadata : List ℕ) (offsets : Flat) (chunks : List Column) → len < 2 ^ 64 → IsChunkedForm t len metadata offsets chunks →
    (r : Result (Chunked Column) ColumnError) → IfErr r (ChunksCause t chunks) → IfErr r (ChunkedCause t len metadata offsets chunks)
made_cause t len metadata offsets chunks h form (Ok array) cause = cause
made_cause t len metadata offsets chunks h form (Err e) cause = made_cause_at t len metadata offsets chunks h form e cause

-- an array of these chunks has the declared length
made_len_at : (len : ℕ) (offsets : Flat) (chunks : List Column) (array : Chunked Column) → boundary_fault len offsets (map len_of chunks) ≡ None → chunks_of array ≡ chunks → len_of (chunked_column array) ≡ len
made_len_at len offsets chunks array e same = len_chunked array ∙ ap (λ (cs : List Column). total (map len_of cs)) same ∙ bounded_total len offsets (map len_of chunks) e

pub made_len : (t : DType) (len : ℕ) (metadata : List ℕ) (offsets : Flat) (chunks : List Column) → IsChunkedForm t len metadata offsets chunks →
    (r : Result (Chunked Column) ColumnError) → IfOk r (λ array. (chunks_of array ≡ chunks) × (declared_type array ≡ t)) → IfOk r (λ array. len_of (chunked_column array) ≡ len)
made_len t len metadata offsets chunks form (Ok array) made = made_len_at len offsets chunks array form.bounded made.0
made_len t len metadata offsets chunks form (Err e) made = made
