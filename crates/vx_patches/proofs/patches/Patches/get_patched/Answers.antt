use Rattle.std.proofs.Common.{◌∙◌, sym, ap}
use Rattle.std.specs.Prelude.{Some}
use Rattle.vx_patches.specs.OverlayViews.{overlay_of}
use Rattle.vx_patches.proofs.Overlays.{found_inside, found_value, missing_value}
use Rattle.vx_patches.proofs.patches.Patches.get_patched.Goals as goal

pub row_at-requires : goal.row_at-requires
row_at-requires g c =
    found_inside (overlay_of c.self.inside) c.args.self.now c.self.view_is c.self.invariant c.args.index c.in-Found.place (sym c.in-Found.is ∙ c.search_index.ensures.place)

pub returns-in_ok-row_at-in-Found-clause-ok : goal.returns-in_ok-row_at-in-Found-clause-ok
returns-in_ok-row_at-in-Found-clause-ok g c =
    ap Some c.in_ok-row_at-in-Found.ensures.ok ∙ found_value (overlay_of c.self.inside) c.args.self.now c.self.view_is c.self.invariant c.args.index c.in-Found.place (sym c.in-Found.is ∙ c.search_index.ensures.place)

pub returns-in-NotFound-clause-ok : goal.returns-in-NotFound-clause-ok
returns-in-NotFound-clause-ok g c =
    missing_value (overlay_of c.self.inside) c.args.self.now c.self.view_is c.self.invariant c.args.index c.in-NotFound.field-0 (sym c.in-NotFound.is ∙ c.search_index.ensures.place)
