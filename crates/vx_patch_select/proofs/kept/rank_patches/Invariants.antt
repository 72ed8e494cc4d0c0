use Rattle.std.proofs.Common.{◌≡◌, ◌+◌}
use Rattle.vx_masks.specs.Masks.{bits_of}
use Rattle.vx_patches.specs.Places.{rows_of}
use Rattle.vx_patch_select.specs.Plans.{IsKeptTo}
use Rattle.vx_patch_select.proofs.kept.rank_patches.Given as goal

abbrev pub invariant-loop-place : goal.invariant-loop-place
invariant-loop-place g l = record {
  kept : IsKeptTo (bits_of l.mask) (rows_of l.rows) l.place l.kept;
  spent : l.steps ≡ l.fn.steps + l.place;
}
