use Rattle.std.proofs.Common.{◌≡◌, take, map}
use Rattle.vx_select.specs.Spots.{Spot}
use Rattle.vx_select.proofs.touched.all_lists.Given as goal

abbrev pub invariant-loop-spot : goal.invariant-loop-spot
invariant-loop-spot l = l.numbers.items ≡ map (λ (s : Spot). s.0) (take l.spot-index l.spots)
