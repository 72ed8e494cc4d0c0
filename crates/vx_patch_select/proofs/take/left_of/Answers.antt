use Rattle.std.proofs.Common.{◌∙◌, sym, length}
use Rattle.vx_patch_select.proofs.Filtering.{empty_not}
use Rattle.vx_patch_select.proofs.Planned.{left_made}
use Rattle.vx_patch_select.proofs.take.left_of.Goals as goal

pub returns-clause-ok : goal.returns-clause-ok
returns-clause-ok g c =
    let places = c.as_slice-places.result.now in
    left_made c.in_ok-left.left c.args.row_count c.args.may_be_null c.args.patches.now.values c.values.result.now c.in_ok-values.values c.args.plan.now.indices c.as_slice.result.now c.args.plan.now.places places
    c.in_ok-left.ensures.ok c.as_slice.ensures c.as_slice-places.ensures c.values.ensures c.in_ok-values.ensures.ok c.requires.number (empty_not (length places) (sym c.is_empty.ensures ∙ c.if-is_empty.false))
