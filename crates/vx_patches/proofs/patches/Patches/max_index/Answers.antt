use Rattle.std.proofs.Common.{ap, ◌∙◌, ◌-◌, List, ℕ, get_or}
use Rattle.vx_patches.specs.Pairs.{pairs_of, firsts}
use Rattle.vx_patches.specs.OverlayViews.{overlay_of}
use Rattle.vx_patches.proofs.Overlays.{count_now, rows_now}
use Rattle.vx_patches.proofs.patches.Patches.max_index.Goals as goal

pub returns-clause-row : goal.returns-clause-row
returns-clause-row g c =
    c.row_at.ensures.row ∙ ap (λ (ns : List ℕ). get_or ns (c.num_patches.result - 1) 0) (rows_now (overlay_of c.self.inside) c.args.self.now c.self.view_is c.self.invariant)
    ∙ ap (λ (n : ℕ). get_or (firsts (pairs_of c.args.self.now)) (n - 1) 0) (c.num_patches.ensures ∙ count_now (overlay_of c.self.inside) c.args.self.now c.self.view_is c.self.invariant)
