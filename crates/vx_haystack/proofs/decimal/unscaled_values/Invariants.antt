use Rattle.std.proofs.Common.{◌≡◌, take}
use Rattle.vx_haystack.specs.Keys.{keys_of, row_decimal}
use Rattle.vx_haystack.proofs.decimal.unscaled_values.Given as goal

abbrev pub invariant-loop-i : goal.invariant-loop-i
invariant-loop-i l = l.values ≡ keys_of row_decimal (take l.i l.rows)
