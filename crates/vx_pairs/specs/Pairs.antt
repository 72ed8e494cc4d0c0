-- Ranges of rows that two ways of cutting the rows into chunks leave whole.
use Rattle.std.specs.Prelude.{◌≡◌, ◌+◌, ◌<◌, ◌≤◌, ◌⊎◌, ℕ, List, [], ◌∷◌, length, take, get_or}
use Rattle.std.specs.List.{All}
use Rattle.std.specs.declared.ops.Range.{Range}
use Rattle.vx_chunks.specs.Bounds.{total}
use Rattle.vx_pairs.specs.declared.paired.PairedRange.{PairedRange}

-- the rows are these places of a chunk, where chunks have these lengths
pub record StandsIn (lens : List ℕ) (chunk : ℕ) (places rows : Range ℕ) : Type 0 where
  pub there : chunk < length lens
  pub inside : places.end ≤ get_or lens chunk 0
  pub start : total (take chunk lens) + places.start ≡ rows.start
  pub end : total (take chunk lens) + places.end ≡ rows.end

-- some rows, which are places of one chunk on both sides, up to the end of the one or of the other
pub record IsPair (lens others : List ℕ) (pair : PairedRange) : Type 0 where
  pub some : pair.pos.start < pair.pos.end
  pub left : StandsIn lens pair.left_chunk pair.left pair.pos
  pub right : StandsIn others pair.right_chunk pair.right pair.pos
  pub full : (pair.left.end ≡ get_or lens pair.left_chunk 0) ⊎ (pair.right.end ≡ get_or others pair.right_chunk 0)

-- rows from one to below another, each range from the end of the one before it
abbrev pub Cover : ℕ → ℕ → List PairedRange → Type 0
Cover from to [] = from ≡ to
Cover from to (pair ∷ pairs) = (pair.pos.start ≡ from) × Cover pair.pos.end to pairs

-- all rows in order
pub record ArePairs (lens others : List ℕ) (pairs : List PairedRange) : Type 0 where
  pub each : All (IsPair lens others) pairs
  pub cover : Cover 0 (total lens) pairs
