use Rattle.std.proofs.Common.{◌≡◌, ◌-◌, ◌^◌}
use Rattle.vx_search.specs.Places.{power_from}
use Rattle.vx_search.proofs.bound.halvings.Given as goal

abbrev pub invariant-loop-reach : goal.invariant-loop-reach
invariant-loop-reach l = record {
  power : l.reach ≡ 2 ^ l.count;
  same : power_from (l.places - l.count) l.count l.places ≡ power_from l.places 0 l.places;
}

abbrev pub decreases-loop-reach : goal.decreases-loop-reach
decreases-loop-reach l = l.places - l.count
