-- Where exceptions stand, and what chunk offsets say of them.
use Rattle.std.specs.Prelude.{ℕ, ◌+◌, ◌-◌, ◌*◌, ◌/◌, ◌%◌, ◌^◌, ◌≤◌, ◌<◌, ◌≡◌, min, List, length, map, slice_index, Option, Some, None, option_map, IsTrue, refl}
use Rattle.std.specs.List.Sorted.{IsStrictlyIncreasing, IsNonDecreasing}
use Rattle.std.specs.Coded.{Coded, code_by, coded×, coded_option, coded_ℕ}
use Rattle.vx_base.specs.Column.{Flat, flat_code}
use Rattle.vx_base.specs.Numbers.{numbers_of, is_unsigned}
use Rattle.vx_base.specs.Checks.{count_below}

-- what callers see of the places of exceptions: how many rows there are, from which row number the indices count, the
-- indices, and where there are chunk offsets these, with the number of exceptions cut away in their first chunk (else 0)
pub record Index : Type 0 where
  pub len : ℕ
  pub offset : ℕ
  pub indices : Flat
  pub chunk_offsets : Option Flat
  pub within : ℕ

abbrev pub index_code : Coded Index
index_code =
    code_by (ℕ × (ℕ × (Flat × (Option Flat × ℕ)))) (coded× coded_ℕ (coded× coded_ℕ (coded× flat_code (coded× (coded_option flat_code) coded_ℕ))))
    (λ c. (c.len, (c.offset, (c.indices, (c.chunk_offsets, c.within))))) (λ p. record { len = p.0; offset = p.1.0; indices = p.1.1.0; chunk_offsets = p.1.1.1.0; within = p.1.1.1.1 }) (λ _. refl)

abbrev pub indices_of : Index → List ℕ
indices_of index = numbers_of index.indices.rows

-- the rows that have an exception
abbrev pub rows_of : Index → List ℕ
rows_of index = map (λ n. n - index.offset) (indices_of index)

-- the number of exceptions cut away in the first chunk, where there are chunk offsets
abbrev pub within_chunk : Index → Option ℕ
within_chunk index = option_map (λ _. index.within) index.chunk_offsets

-- so many rows, a chunk of 1024 each
abbrev pub chunks_over : ℕ → ℕ
chunks_over n = (n + 1023) / 1024

-- the chunk offsets of the indices of `len` rows from `offset` on, where w exceptions of the first chunk are cut away:
-- less the first entry and w, which saturates at 0 and at the number of indices, entry i is the count of the indices before
-- chunk i
pub record HaveChunkOffsets (len offset : ℕ) (indices offsets : List ℕ) (w : ℕ) : Type 0 where
  pub number : length offsets ≡ chunks_over (offset % 1024 + len)
  pub rise : IsNonDecreasing offsets
  pub counts : (i : ℕ) → i < length offsets →
      min (slice_index offsets i - slice_index offsets 0 - w) (length indices) ≡ count_below (1024 * (offset / 1024 + i)) indices
  pub fits : w + length indices < 2 ^ 64

-- there are chunk offsets, of an unsigned type, or there are none
abbrev pub HaveChunks : ℕ → ℕ → List ℕ → Option Flat → ℕ → Type 0
HaveChunks len offset indices (Some c) w = IsTrue (is_unsigned c.dtype) × HaveChunkOffsets len offset indices (numbers_of c.rows) w
HaveChunks len offset indices None w = w ≡ 0

-- what holds of every index of exceptions
pub record IsIndex (index : Index) : Type 0 where
  pub short : index.offset + index.len < 2 ^ 64
  pub unsigned : IsTrue (is_unsigned index.indices.dtype)
  pub some : 0 < length (indices_of index)
  pub rising : IsStrictlyIncreasing (indices_of index)
  pub above : index.offset ≤ slice_index (indices_of index) 0
  pub below : slice_index (indices_of index) (length (indices_of index) - 1) < index.offset + index.len
  pub chunks : HaveChunks index.len index.offset (indices_of index) index.chunk_offsets index.within
