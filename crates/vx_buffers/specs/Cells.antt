-- Lists of values and nulls, as values with marks.
use Rattle.std.specs.Prelude.{Bool, true, false, List, [], ◌∷◌, Option, Some, None, map}

abbrev pub cell : {A : Type 0} → Bool → A → Option A
cell true x = Some x
cell false x = None

-- a value whose mark is false stands for a null; marks may be fewer or more than the values
abbrev pub cells : {A : Type 0} → List Bool → List A → List (Option A)
cells [] xs = map Some xs
cells (m ∷ ms) [] = []
cells (m ∷ ms) (x ∷ xs) = cell m x ∷ cells ms xs
