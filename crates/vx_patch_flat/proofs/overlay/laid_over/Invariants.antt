use Rattle.std.proofs.Common.{◌≡◌, ◌≤◌, ◌<◌, ◌+◌, ◌*◌, ◌++◌, length, get_or, take, drop}
use Rattle.vx_bulk.specs.Selections.{overlaid}
use Rattle.vx_patches.specs.Pairs.{pairs_of, firsts}
use Rattle.vx_patch_flat.proofs.overlay.laid_over.Given as goal

abbrev pub invariant-loop-place : goal.invariant-loop-place
invariant-loop-place g l = record {
  laid : l.rows ++ drop l.from l.base.rows ≡ overlaid l.base.rows (take l.place (pairs_of l.patches));
  long : length l.rows ≡ l.from;
  inside : l.from ≤ length l.base.rows;
  ordered : l.place < length (pairs_of l.patches) → l.from ≤ get_or (firsts (pairs_of l.patches)) l.place 0;
  rise : l.steps ≤ l.fn.steps + (l.from + 2 * l.place);
  monotone : l.fn.steps ≤ l.steps;
}
