-- Boundaries of chunks.
use Rattle.std.specs.Prelude.{ℕ, ◌+◌, ◌-◌, List, [], ◌∷◌}

-- the sum of a list
abbrev pub total : List ℕ → ℕ
total [] = 0
total (n ∷ ns) = n + total ns

-- the running sums of the lengths, from a start
abbrev pub running : ℕ → List ℕ → List ℕ
running at [] = at ∷ []
running at (n ∷ ns) = at ∷ running (at + n) ns

-- from a bound to the next
abbrev pub gaps_from : ℕ → List ℕ → List ℕ
gaps_from a [] = []
gaps_from a (b ∷ bs) = (b - a) ∷ gaps_from b bs

-- the lengths between neighbouring bounds
abbrev pub gaps : List ℕ → List ℕ
gaps [] = []
gaps (b ∷ bs) = gaps_from b bs
