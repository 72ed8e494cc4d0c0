use Rattle.std.proofs.Common.{◌≡◌, ◌<◌, take, map, length}
use Rattle.std.specs.List.{All}
use Rattle.vx_select.specs.Spots.{Spot, named_by}
use Rattle.vx_select.proofs.touched.spots_among.Given as goal

abbrev pub invariant-loop-spot : goal.invariant-loop-spot
invariant-loop-spot l = record {
  there : All (λ (s : Spot). s.0 < length l.numbers) l.among.items;
  same : map (named_by l.numbers) l.among.items ≡ take l.spot-index l.spots;
}
