use Rattle.std.proofs.Common.{subst}
use Rattle.vx_patches.specs.Slices.{IsKept}
use Rattle.vx_patches.specs.OverlayViews.{overlay_of}
use Rattle.vx_patches.proofs.Overlays.{none_inside, part_seen, all_seen}
use Rattle.vx_patches.proofs.patches.Patches.slice.Goals as goal

pub returns-in_default-clause-ok : goal.returns-in_default-clause-ok
returns-in_default-clause-ok g c =
    none_inside (overlay_of c.self.inside) c.args.self.now c.self.view_is c.self.invariant c.args.range.start c.args.range.end
    (subst (IsKept c.self.inside.index c.args.range.start c.args.range.end) c.in_default.is c.in_ok-index.ensures.ok)

pub returns-clause-ok : goal.returns-clause-ok
returns-clause-ok g c =
    part_seen (overlay_of c.self.inside) c.args.self.now c.self.view_is c.self.invariant c.args.range.start c.args.range.end c.in-Some.places.start c.in-Some.places.end c.in-Some.index c.in_ok-values.values
    c.in_ok-index.ensures.inside.0 (subst (IsKept c.self.inside.index c.args.range.start c.args.range.end) c.in-Some.is c.in_ok-index.ensures.ok) c.in_ok-values.ensures.ok

pub returns-clause-whole : goal.returns-clause-whole
returns-clause-whole g c = λ a b.
    all_seen (overlay_of c.self.inside) c.args.self.now c.self.view_is c.self.invariant c.args.range.start c.args.range.end c.in-Some.places.start c.in-Some.places.end c.in-Some.index c.in_ok-values.values
    (subst (IsKept c.self.inside.index c.args.range.start c.args.range.end) c.in-Some.is c.in_ok-index.ensures.ok) c.in_ok-values.ensures.ok a b
