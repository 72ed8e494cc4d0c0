-- What the numbers come to that are defined by trial.
use Rattle.std.specs.Prelude.{◌≡◌, ℕ, ◌*◌, ◌^◌, ◌≤◌, ◌<◌}
use Rattle.vx_search.specs.Halving.{log_up, rounds}
use Rattle.vx_search.specs.Places.{search_bound}

-- the power of two isn't below the number
abbrev pub IsReached : Type 0
IsReached = (n : ℕ) → n ≤ 2 ^ log_up n

-- and each smaller one is
abbrev pub IsLeast : Type 0
IsLeast = (n k : ℕ) → k < log_up n → 2 ^ k < n

-- two searches over as many places
abbrev pub BoundsTwo : Type 0
BoundsTwo = (n : ℕ) → search_bound n ≡ 2 * rounds n
