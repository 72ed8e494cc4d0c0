use Rattle.std.proofs.Common.{◌≡◌, ◌∙◌, ap, subst}
use Rattle.vx_rows.specs.declared.dtype.DType.{DType}
use Rattle.vx_rows.specs.Fits.{rows_fit}
use Rattle.vx_base.specs.Column.{Flat, IsFlat}
use Rattle.vx_patch_flat.proofs.Fitting.{overlaid_fit}
use Rattle.vx_patch_flat.proofs.overlay.replaced.Goals as goal

pub from_buffer-requires : goal.from_buffer-requires
from_buffer-requires g c =
    let base = c.args.base.now in
    let o = c.args.patches.now in
    let same : c.in_ok-dtype.dtype ≡ base.dtype = c.in_ok-dtype.ensures.ok ∙ c.dtype-2.ensures.dtype in
    let values : IsFlat o.values = subst (λ (v : Flat). IsFlat v) c.values.ensures c.dtype.ensures.fits in
    ap (λ (t : DType). rows_fit t c.in_ok-rows.rows) same
    ∙ ap (rows_fit base.dtype) c.in_ok-rows.ensures.ok
    ∙ overlaid_fit base o c.requires.patchable c.dtype-2.ensures.fits values
