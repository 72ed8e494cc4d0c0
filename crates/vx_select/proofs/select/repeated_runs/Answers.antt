use Rattle.std.proofs.Common.{◌∙◌, ap, sym}
use Rattle.vx_base.specs.Column.{flat}
use Rattle.vx_column.specs.declared.column.Column.TheVariants as column
use Rattle.vx_bulk.specs.Selections.{joined_runs}
use Rattle.vx_select.specs.Causes.{run_places}
use Rattle.vx_select.proofs.Chosen.{runs_rows}
use Rattle.vx_select.proofs.Selected.{flat_selection, all_rows}
use Rattle.vx_select.proofs.select.repeated_runs.Goals as goal

pub returns-clause-ok : goal.returns-clause-ok
returns-clause-ok g c =
    let rows = c.args.rows.now in
    flat_selection (column.Flat rows) c.flat.result rows.dtype (joined_runs rows.rows c.args.runs.now) (c.flat.ensures.value ∙ ap column.Flat c.in_ok-part.ensures.ok) c.flat.ensures.sound

pub returns-clause-same : goal.returns-clause-same
returns-clause-same g c = λ all.
    let rows = c.args.rows.now in
    let runs = c.args.runs.now in
    let whole = sym (runs_rows rows.rows runs c.requires) ∙ all_rows rows.rows (run_places runs) all in
    c.flat.ensures.value ∙ ap column.Flat (c.in_ok-part.ensures.ok ∙ ap (flat rows.dtype) whole)
