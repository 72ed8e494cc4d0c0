-- What contracts see of a mask's values.
use Rattle.std.specs.Prelude.{Bool, List}

-- the bits, and whether the places of the true ones are cached
pub record MixedBits : Type 0 where
  pub bits : List Bool
  pub is_cached : Bool
