-- Bits of rows of which some are null.
use Rattle.std.specs.Prelude.{Bool, cond, List, [], ◌∷◌, Option, Some, None}

-- the bit where it is there, and none elsewhere
abbrev pub bits_where : List Bool → List Bool → List (Option Bool)
bits_where [] present = []
bits_where (bit ∷ bits) [] = []
bits_where (bit ∷ bits) (here ∷ present) = cond here (Some bit) None ∷ bits_where bits present
