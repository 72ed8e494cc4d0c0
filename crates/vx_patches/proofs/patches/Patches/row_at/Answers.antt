use Rattle.std.proofs.Common.{ap, ◌∙◌, List, ℕ, get_or, arith}
use Rattle.vx_patches.specs.OverlayViews.{overlay_of}
use Rattle.vx_patches.proofs.Overlays.{rows_now, count_now}
use Rattle.vx_patches.proofs.patches.Patches.row_at.Goals as goal

pub row_at-requires : goal.row_at-requires
row_at-requires g c = omega (arith, c.requires, count_now (overlay_of c.self.inside) c.args.self.now c.self.view_is c.self.invariant)

pub returns-clause-row : goal.returns-clause-row
returns-clause-row g c =
    c.row_at.ensures.row ∙ ap (λ (ns : List ℕ). get_or ns c.args.place 0) (rows_now (overlay_of c.self.inside) c.args.self.now c.self.view_is c.self.invariant)
