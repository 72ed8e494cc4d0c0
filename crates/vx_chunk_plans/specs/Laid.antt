-- Pieces of chunks of some lengths, and the rows that they are.
use Rattle.std.specs.Prelude.{ℕ, ◌+◌, List, [], ◌∷◌, ◌++◌, map}

-- the numbers of the rows of pieces, laid end to end by chunk, where the first chunk starts at a row: which places of a chunk
-- of some length its piece is, is told by `places`
abbrev pub laid_from : {P : Type 0} → (ℕ → P → List ℕ) → ℕ → List ℕ → List P → List ℕ
laid_from places at [] pieces = []
laid_from places at (n ∷ lens) [] = []
laid_from places at (n ∷ lens) (piece ∷ pieces) = map (λ place. at + place) (places n piece) ++ laid_from places (at + n) lens pieces
