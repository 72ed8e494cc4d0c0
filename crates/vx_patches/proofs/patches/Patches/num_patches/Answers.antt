use Rattle.std.proofs.Common.{◌∙◌}
use Rattle.vx_patches.specs.OverlayViews.{overlay_of}
use Rattle.vx_patches.proofs.Overlays.{count_now}
use Rattle.vx_patches.proofs.patches.Patches.num_patches.Goals as goal

pub returns : goal.returns
returns c = c.num_patches.ensures ∙ count_now (overlay_of c.self.inside) c.args.self.now c.self.view_is c.self.invariant
