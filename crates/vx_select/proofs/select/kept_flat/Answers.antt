use Rattle.std.proofs.Common.{◌∙◌, ap}
use Rattle.vx_masks.specs.Bits.{kept}
use Rattle.vx_masks.specs.Masks.{bits_of}
use Rattle.vx_column.specs.declared.column.Column.TheVariants as column
use Rattle.vx_select.proofs.Selected.{flat_selection}
use Rattle.vx_select.proofs.select.kept_flat.Goals as goal

pub returns-clause-ok : goal.returns-clause-ok
returns-clause-ok g c =
    let rows = c.args.rows.now in
    flat_selection (column.Flat rows) c.flat.result rows.dtype (kept rows.rows (bits_of c.args.mask.now)) (c.flat.ensures.value ∙ ap column.Flat c.in_ok-part.ensures.ok) c.flat.ensures.sound
