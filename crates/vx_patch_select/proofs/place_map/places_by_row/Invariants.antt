use Rattle.std.proofs.Common.{◌≡◌, ◌+◌}
use Rattle.vx_patches.specs.Places.{rows_of}
use Rattle.vx_patch_select.proofs.Mapped.{FindsTo}
use Rattle.vx_patch_select.proofs.place_map.places_by_row.Given as goal

abbrev pub invariant-loop-place : goal.invariant-loop-place
invariant-loop-place g l = record {
  finds : FindsTo (rows_of l.patches.index) l.place l.places;
  cost : l.steps ≡ l.fn.steps + l.place;
}
