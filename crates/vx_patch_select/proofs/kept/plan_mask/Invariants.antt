use Rattle.std.proofs.Common.{◌≡◌, ◌+◌, take}
use Rattle.vx_masks.specs.Masks.{bits_of}
use Rattle.vx_patches.specs.Places.{rows_of}
use Rattle.vx_patch_select.proofs.Keeping.{places_left}
use Rattle.vx_patch_select.proofs.kept.plan_mask.Given as goal

abbrev pub invariant-loop-place : goal.invariant-loop-place
invariant-loop-place g l = record {
  left : l.places.items ≡ places_left (bits_of l.mask) (take l.place (rows_of l.rows));
  spent : l.steps ≡ l.fn.steps + l.place;
}
