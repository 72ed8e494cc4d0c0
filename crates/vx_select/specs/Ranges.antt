-- Ranges of places.
use Rattle.std.specs.Prelude.{◌≤◌, ℕ}

-- the places from a start to below an end, which is no more than n
abbrev pub IsRangeOf : ℕ → ℕ × ℕ → Type 0
IsRangeOf n range = (range.0 ≤ range.1) × (range.1 ≤ n)
