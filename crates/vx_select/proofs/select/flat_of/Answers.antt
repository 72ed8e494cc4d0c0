use Rattle.std.proofs.Common.{◌∙◌, ap}
use Rattle.vx_column.specs.declared.column.Column.TheVariants as column
use Rattle.vx_select.proofs.Selected.{flat_selection}
use Rattle.vx_select.proofs.select.flat_of.Goals as goal

pub returns-clause-ok : goal.returns-clause-ok
returns-clause-ok c =
    flat_selection c.args.whole.now c.flat.result c.args.dtype c.args.rows (c.flat.ensures.value ∙ ap column.Flat c.in_ok-rows.ensures.ok) c.flat.ensures.sound
