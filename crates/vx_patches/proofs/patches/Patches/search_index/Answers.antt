use Rattle.std.proofs.Common.{◌∙◌, ap, List, ℕ}
use Rattle.vx_patches.specs.Search.{place_among}
use Rattle.vx_patches.specs.OverlayViews.{overlay_of}
use Rattle.vx_patches.proofs.Overlays.{rows_now}
use Rattle.vx_patches.proofs.patches.Patches.search_index.Goals as goal

pub returns-clause-place : goal.returns-clause-place
returns-clause-place g c =
    c.search_index.ensures.place ∙ ap (λ (ns : List ℕ). place_among ns c.args.index) (rows_now (overlay_of c.self.inside) c.args.self.now c.self.view_is c.self.invariant)
