use Rattle.std.proofs.Common.{◌≡◌}
use Rattle.std.proofs.lemmas.Result.{IfOk-weaker}
use Rattle.vx_job.specs.Rows.{picked as rows_at}
use Rattle.vx_column.specs.Columns.{rows_of, type_of}
use Rattle.vx_select.specs.Chosen.{IsSelectionOf}
use Rattle.vx_select.proofs.Selected.{whole_selection, all_rows}
use Rattle.vx_select.proofs.select.all_picked.Goals as goal

pub returns-clause-ok : goal.returns-clause-ok
returns-clause-ok c =
    let self = c.args.column.now in
    let places = c.args.places.now in
    let rows = all_rows (rows_of self) places c.requires.all in
    IfOk-weaker c.share.result (λ part. part ≡ self) (IsSelectionOf self (type_of self) (rows_at (rows_of self) places)) (λ part e. whole_selection self part (rows_at (rows_of self) places) e c.requires.sound rows) c.share.ensures.ok
