use Rattle.std.proofs.Common.{ℕ, ◌≡◌, ◌*◌, ◌<◌, length, get_or}
use Rattle.vx_search_bench.proofs.evens.Given as goal

abbrev pub invariant-loop-i : goal.invariant-loop-i
invariant-loop-i l = record {
  long : length l.values.items ≡ l.i;
  even : (k d : ℕ) → k < l.i → get_or l.values.items k d ≡ 2 * k;
}
