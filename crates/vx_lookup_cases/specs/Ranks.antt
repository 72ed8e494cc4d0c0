-- The place of an order among the three.
use Rattle.std.specs.Prelude.{ℕ, Option, Some, None}
use Rattle.std.specs.declared.cmp.Ordering.{Ordering}
use Rattle.std.specs.Ordering.{ordering_index}

abbrev pub rank : Option Ordering → ℕ
rank None = 0
rank (Some o) = ordering_index o
