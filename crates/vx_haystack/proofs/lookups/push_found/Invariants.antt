use Rattle.std.proofs.Common.{◌≡◌, ◌++◌, take, map}
use Rattle.std.specs.Option.{is_some}
use Rattle.vx_haystack.specs.Members.{members_have}
use Rattle.vx_haystack.proofs.lookups.push_found.Given as goal

abbrev pub invariant-loop-i : goal.invariant-loop-i
invariant-loop-i l = record {
  bits : l.bits ≡ l.fn.bits ++ map (members_have l.members) (take l.i l.rows);
  valid : l.valid ≡ l.fn.valid ++ map is_some (take l.i l.rows);
}
