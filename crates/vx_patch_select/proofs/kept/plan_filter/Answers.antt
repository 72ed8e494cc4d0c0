use Rattle.std.proofs.Common.{◌∙◌, sym, ap}
use Rattle.vx_masks.specs.Masks.{bits_of}
use Rattle.vx_patches.specs.Places.{rows_of}
use Rattle.vx_patch_select.specs.Plans.{placed, kept_of}
use Rattle.vx_patch_select.proofs.Galloping.{none_kept}
use Rattle.vx_patch_select.proofs.kept.plan_filter.Goals as goal

pub returns-then-true_count-eq0-clause-ok : goal.returns-then-true_count-eq0-clause-ok
returns-then-true_count-eq0-clause-ok g c =
    c.none.ensures ∙ ap kept_of (sym (none_kept (bits_of c.args.mask.now) (sym c.true_count-true_count.ensures.count ∙ c.if-true_count-eq0.true) (placed (rows_of c.args.rows.now))))
