use Rattle.std.proofs.Common.{◌<◌, take}
use Rattle.std.specs.List.{All}
use Rattle.vx_lane_select.specs.Selected.{IsWithin}
use Rattle.vx_gather_cases.proofs.entries.are_below.Given as goal

abbrev pub invariant-loop-row : goal.invariant-loop-row
invariant-loop-row l = All (λ row. row < l.len) (take l.row-index l.kept)
