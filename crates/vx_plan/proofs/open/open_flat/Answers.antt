use Rattle.std.proofs.Common.{ap, ◌∙◌}
use Rattle.vx_column.specs.declared.column.Column.TheVariants as column
use Rattle.vx_plan.proofs.Opened.{opened_flat}
use Rattle.vx_plan.proofs.open.open_flat.Goals as goal

pub returns-clause-ok : goal.returns-clause-ok
returns-clause-ok c = opened_flat c.args.rows.now c.flat.result (c.flat.ensures.value ∙ ap column.Flat c.in_ok-rows.ensures.ok) c.flat.ensures.sound
