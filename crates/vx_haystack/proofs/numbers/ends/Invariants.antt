use Rattle.std.proofs.Common.{◌≡◌, ◌≤◌, ◌<◌, map, take, length}
use Rattle.vx_haystack.specs.Integers.{least, greatest}
use Rattle.vx_haystack.proofs.numbers.ends.Given as goal

abbrev pub invariant-loop-i : goal.invariant-loop-i
invariant-loop-i g l = record {
  some : 0 < length l.values;
  from : 1 ≤ l.i;
  least : g.T.SetInteger.number l.least ≡ least (map g.T.SetInteger.number (take l.i l.values));
  greatest : g.T.SetInteger.number l.greatest ≡ greatest (map g.T.SetInteger.number (take l.i l.values));
}
