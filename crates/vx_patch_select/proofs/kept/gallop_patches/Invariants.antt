use Rattle.std.proofs.Common.{◌+◌, length}
use Rattle.vx_masks.specs.Masks.{bits_of}
use Rattle.vx_search.specs.Places.{search_bound}
use Rattle.vx_patches.specs.Places.{indices_of, rows_of}
use Rattle.vx_patch_select.proofs.Galloping.{StepsOn}
use Rattle.vx_patch_select.proofs.kept.gallop_patches.Given as goal

abbrev pub invariant-loop-row : goal.invariant-loop-row
invariant-loop-row g l = StepsOn l.fn.steps (search_bound (length (indices_of l.rows)) + 3) (bits_of l.mask) (rows_of l.rows) l.row l.kept l.start l.rank l.steps
