use Rattle.std.proofs.Common.{◌≡◌, ◌∙◌}
use Rattle.vx_rows.specs.Fits.{rows_fit}
use Rattle.vx_interleave.specs.Selections.{selection}
use Rattle.vx_interleave_gather.proofs.Fitting.{gathered_fits}
use Rattle.vx_interleave_gather.proofs.columns.gathered_column.Goals as goal

pub from_buffer-requires : goal.from_buffer-requires
from_buffer-requires g c =
    (λ j. rows_fit (c.in_ok-dtype.ensures.ok j) (c.in_ok-rows.ensures.ok j))
    ∙ gathered_fits c.args.values.now (selection c.args.array_indices.now c.args.row_indices.now) c.requires.some c.in_ok-check.ensures.fits c.requires.alike c.in_ok-check.ensures.sound c.in_ok-check.ensures.within
