-- Lists of rows: joined, with some replaced, and picked from several.
use Rattle.std.specs.Prelude.{ℕ, ◌+◌, ◌/◌, List, [], ◌∷◌, ◌++◌, map, max, get_or, Option, None}
use Rattle.std.specs.Option.{unwrap_or}
use Rattle.vx_rows.specs.declared.value.Value.{Value}
use Rattle.vx_patches.specs.Places.{Index}
use Rattle.vx_patches.specs.Pairs.{pairs_by, value_at}

abbrev pub Rows : Type 0
Rows = List (Option Value)

-- lists joined in order
abbrev pub joined : List Rows → Rows
joined [] = []
joined (rows ∷ rest) = rows ++ joined rest

-- the rows from a number on, where a pair of the same number puts its value in a row's place
abbrev pub rows_below : List (ℕ × Option Value) → ℕ → Rows → Rows
rows_below pairs number [] = []
rows_below pairs number (row ∷ rows) = unwrap_or (value_at number pairs) row ∷ rows_below pairs (number + 1) rows

-- rows with exceptions in their places, whose values are rows too
abbrev pub excepted : Index → Rows → Rows → Rows
excepted index values rows = rows_below (pairs_by index values) 0 rows

-- the row that each pair names, by the number of a list and the number of a row in it
abbrev pub interleaved : List Rows → List (ℕ × ℕ) → Rows
interleaved values pairs = map (λ p. get_or (get_or values p.0 []) p.1 None) pairs

-- the rows of these numbers, in order
abbrev pub picked : Rows → List ℕ → Rows
picked rows numbers = map (λ i. get_or rows i None) numbers

-- the greatest of the numbers, 0 where there is none
abbrev pub greatest : List ℕ → ℕ
greatest [] = 0
greatest (n ∷ ns) = max n (greatest ns)

-- two lane offsets, the indices of a lane, and a value, where a chunk has so many lanes
abbrev pub lane_reads : ℕ → ℕ
lane_reads n_lanes = 2 + 1024 / n_lanes + 1
