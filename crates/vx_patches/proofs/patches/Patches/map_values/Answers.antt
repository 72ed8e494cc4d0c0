use Rattle.std.proofs.Common.{◌≡◌, ◌∙◌, ap, subst, refl, Ok}
use Rattle.vx_base.specs.Column.{Flat}
use Rattle.vx_patches.specs.OverlayViews.{overlay_of}
use Rattle.vx_patches.specs.Pairs.{Overlay, mapped}
use Rattle.vx_patches.proofs.Overlays.{count_now}
use Rattle.vx_patches.proofs.Cuts.{mapped_apart, mapped_alike}
use Rattle.vx_patches.proofs.patches.Patches.map_values.Goals as goal

pub returns-then-found-expected : goal.returns-then-found-expected
returns-then-found-expected g c =
    let values = c.in_ok-values.values in
    let same : c.self.inside.values ≡ c.args.self.values = ap (λ (o : Overlay). o.values) c.self.view_is in (
      Ok values,
      subst (λ (v : Flat). g.F.FnOnce.post c.args.f (v, tt) (Ok values)) same c.in_ok-values.ensures,
      mapped_apart c.args.self values c.num_patches-expected.result c.len-found.result
          (c.num_patches-expected.ensures ∙ count_now (overlay_of c.self.inside) c.args.self c.self.view_is c.self.invariant) c.len-found.ensures c.if-found-expected.true,
    )

pub returns : goal.returns
returns g c =
    let values = c.in_ok-values.values in
    let inside = overlay_of c.self.inside in
    let same : c.self.inside.values ≡ c.args.self.values = ap (λ (o : Overlay). o.values) c.self.view_is in (
      Ok values,
      subst (λ (v : Flat). g.F.FnOnce.post c.args.f (v, tt) (Ok values)) same c.in_ok-values.ensures,
      mapped_alike inside values c.num_patches-expected.result c.len-found.result
          (c.num_patches-expected.ensures ∙ count_now inside inside refl c.self.invariant) c.len-found.ensures c.if-found-expected.false
          ∙ ap (λ (o : Overlay). mapped o (Ok values)) c.self.view_is,
    )
