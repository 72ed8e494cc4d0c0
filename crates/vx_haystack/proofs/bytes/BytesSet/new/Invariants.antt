use Rattle.std.proofs.Common.{ℕ, List, ◌≡◌, take}
use Rattle.vx_haystack.specs.Keys.{has_bytes, keys_of, row_bytes}
use Rattle.vx_haystack.proofs.bytes.BytesSet.new.Given as goal

abbrev pub invariant-loop-i : goal.invariant-loop-i
invariant-loop-i l = (other : List ℕ) → has_bytes l.set other ≡ has_bytes (keys_of row_bytes (take l.i l.rows)) other
