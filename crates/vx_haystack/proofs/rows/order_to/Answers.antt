use Rattle.std.proofs.Common.{◌∙◌, ap, sym}
use Rattle.std.specs.Ordering.{ordering_reverse}
use Rattle.vx_buffers.specs.Refs.{row_of_ref}
use Rattle.vx_scalars.proofs.Total.{row_cmp_total}
use Rattle.vx_haystack.proofs.rows.order_to.Goals as goal

pub returns : goal.returns
returns c = c.reverse.ensures ∙ ap ordering_reverse c.cmp.ensures ∙ sym (row_cmp_total.antisymm c.args.key.now.row (row_of_ref c.args.row))
