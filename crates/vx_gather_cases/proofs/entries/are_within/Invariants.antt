use Rattle.std.proofs.Common.{◌<◌, take}
use Rattle.std.specs.List.{All}
use Rattle.vx_lane_select.specs.Selected.{IsWithin}
use Rattle.vx_gather_cases.proofs.entries.are_within.Given as goal

abbrev pub invariant-loop-row : goal.invariant-loop-row
invariant-loop-row l = All (IsWithin l.len) (take l.row-index l.taken)
