use Rattle.std.proofs.Common.{ℕ, ◌<◌, ◌≤◌, length, get_or}
use Rattle.vx_base.specs.Checks.{count_below}
use Rattle.vx_masks.specs.Masks.{bits_of}
use Rattle.vx_patches.specs.Places.{rows_of}
use Rattle.vx_patch_select.specs.Plans.{IsKeptTo}
use Rattle.vx_patch_select.proofs.kept.gallop_mask.Given as goal

abbrev pub invariant-loop-place : goal.invariant-loop-place
invariant-loop-place g l = record {
  kept : IsKeptTo (bits_of l.mask) (rows_of l.rows) l.place l.kept;
  start : (k : ℕ) → l.place ≤ k → k < length (rows_of l.rows) → l.start ≤ count_below (get_or (rows_of l.rows) k 0) l.places;
  monotone : l.fn.steps ≤ l.steps;
}
