use Rattle.std.proofs.Common.{◌∙◌, sym, ap}
use Rattle.std.specs.Prelude.{Option}
use Rattle.std.proofs.Common.{ℕ}
use Rattle.vx_patch_select.specs.Selected.{named}
use Rattle.vx_patch_select.specs.Plans.{placed_some}
use Rattle.vx_patch_select.proofs.Taking.{named_found, named_missing}
use Rattle.vx_patch_select.proofs.lookup.named_place.Goals as goal

pub returns-in-Some-place_of-clause-named : goal.returns-in-Some-place_of-clause-named
returns-in-Some-place_of-clause-named g c =
    let rows = g.P.Lookup.rows c.args.patches.now in
    named_found c.args.include_nulls rows c.in-Some.row c.in-Some-place_of.place (sym c.in-Some-place_of.is ∙ c.place_of.ensures.place)
    ∙ ap (λ (o : Option ℕ). named c.args.include_nulls (placed_some rows) o) (sym c.in-Some.is)

pub returns-in-None-place_of-clause-named : goal.returns-in-None-place_of-clause-named
returns-in-None-place_of-clause-named g c =
    let rows = g.P.Lookup.rows c.args.patches.now in
    named_missing c.args.include_nulls rows c.in-Some.row (sym c.in-None-place_of.is ∙ c.place_of.ensures.place)
    ∙ ap (λ (o : Option ℕ). named c.args.include_nulls (placed_some rows) o) (sym c.in-Some.is)
