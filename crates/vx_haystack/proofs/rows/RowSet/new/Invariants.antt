use Rattle.std.proofs.Common.{◌≡◌, take, map}
use Rattle.vx_haystack.specs.Keys.{values_of}
use Rattle.vx_haystack.proofs.rows.RowSet.new.Given as goal

abbrev pub invariant-loop-i : goal.invariant-loop-i
invariant-loop-i l = map (λ k. k.row) l.keys.items ≡ values_of (take l.i l.rows)
