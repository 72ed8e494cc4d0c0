-- Chunks of 1024 rows, and which exceptions are written into one.
use Rattle.std.specs.Prelude.{ℕ, ◌+◌, ◌-◌, ◌*◌, ◌%◌, ◌≤◌, ◌<◌, min, cond, nat_lt, List, length, map, slice_index}
use Rattle.std.specs.List.{slice_range, zip}

-- the first row of a chunk, where the rows begin at an offset, and the one behind its last
abbrev pub chunk_start : ℕ → ℕ → ℕ
chunk_start chunk offset = chunk * 1024 - offset % 1024

abbrev pub chunk_end : ℕ → ℕ → ℕ → ℕ
chunk_end chunk offset len = min ((chunk + 1) * 1024 - offset % 1024) len

-- the first place of a chunk's exceptions, by its entry, where w of the first chunk's are cut away
abbrev pub place_at : List ℕ → ℕ → ℕ → ℕ
place_at offsets w chunk = slice_index offsets chunk - slice_index offsets 0 - w

-- the place behind the last, of m: that of the next chunk, and of the last chunk m
abbrev pub place_behind : List ℕ → ℕ → ℕ → ℕ → ℕ
place_behind offsets w chunk m = cond (nat_lt (chunk + 1) (length offsets)) (min (place_at offsets w (chunk + 1)) m) m

-- the places in the chunk, and the values, that its exceptions are written to
abbrev pub pairs_in : {A : Type 0} → ℕ → ℕ → List ℕ → List A → List (ℕ × A)
pairs_in offset chunk indices values = zip (map (λ n. n - offset - chunk_start chunk offset) indices) values

-- those of one chunk
abbrev pub pairs_of_chunk : {A : Type 0} → List ℕ → ℕ → ℕ → List (ℕ × A) → List (ℕ × A)
pairs_of_chunk offsets w chunk pairs = slice_range pairs (place_at offsets w chunk) (place_behind offsets w chunk (length pairs))

-- an index of a row of the chunk, of which so many are decoded
pub record IsDecoded (offset chunk len n : ℕ) : Type 0 where
  pub from : offset + chunk_start chunk offset ≤ n
  pub below : n < offset + chunk_start chunk offset + len
