use Rattle.std.proofs.Common.{◌≡◌, All, take}
use Rattle.vx_chunks.proofs.data.ChunkedData.validate.Given as goal

abbrev pub invariant-loop-chunk_type : goal.invariant-loop-chunk_type
invariant-loop-chunk_type l = All (λ t. t ≡ l.dtype) (take l.chunk_type-index l.chunk_types)
