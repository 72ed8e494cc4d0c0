-- Places of exceptions in a hash map.
use Rattle.std.specs.Prelude.{ℕ, ◌≡◌, nat_eq, List}
use Rattle.std.specs.HashMap.{HashMap, get}
use Rattle.vx_patches.specs.Pairs.{value_at}
use Rattle.vx_patch_select.specs.Plans.{placed}

-- the map has at each row the place of its exception, and nothing at a row without one
abbrev pub FindsPlaces : {S : Type 0} → List ℕ → HashMap ℕ ℕ S → Type 0
FindsPlaces rows map = (row : ℕ) → get nat_eq map row ≡ value_at row (placed rows)
