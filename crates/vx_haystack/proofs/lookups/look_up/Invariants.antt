use Rattle.std.proofs.Common.{◌≡◌, ◌+◌, ◌-◌, ◌≤◌, length, take, map}
use Rattle.std.specs.Option.{is_some}
use Rattle.vx_haystack.specs.Members.{members_have}
use Rattle.vx_haystack.proofs.lookups.look_up.Given as goal

abbrev pub invariant-loop-start : goal.invariant-loop-start
invariant-loop-start g l = record {
  inside : l.start ≤ length l.needles.rows;
  bits : l.bits ≡ map (members_have l.members) (take l.start l.needles.rows);
  valid : l.valid ≡ map is_some (take l.start l.needles.rows);
  cost : l.steps ≡ l.fn.steps + l.start;
}

abbrev pub decreases-loop-start : goal.decreases-loop-start
decreases-loop-start g l = length l.needles.rows - l.start
