use Rattle.std.proofs.Common.{ℕ, ◌<◌, ◌≤◌, get_or}
use Rattle.vx_gather_cases.proofs.entries.are_rising.Given as goal

abbrev pub invariant-loop-i : goal.invariant-loop-i
invariant-loop-i l = record {
  up : (a b : ℕ) → a < b → b < l.i → get_or l.kept a 0 < get_or l.kept b 0;
  some : 1 ≤ l.i;
}
