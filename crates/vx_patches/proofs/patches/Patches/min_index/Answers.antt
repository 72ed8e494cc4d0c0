use Rattle.std.proofs.Common.{ap, ◌∙◌, List, ℕ, get_or}
use Rattle.vx_patches.specs.OverlayViews.{overlay_of}
use Rattle.vx_patches.proofs.Overlays.{rows_now}
use Rattle.vx_patches.proofs.patches.Patches.min_index.Goals as goal

pub returns-clause-row : goal.returns-clause-row
returns-clause-row g c =
    c.row_at.ensures.row ∙ ap (λ (ns : List ℕ). get_or ns 0 0) (rows_now (overlay_of c.self.inside) c.args.self.now c.self.view_is c.self.invariant)
