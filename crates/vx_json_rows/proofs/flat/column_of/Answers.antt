use Rattle.std.proofs.Common.{Some, ap, sym, ◌∙◌}
use Rattle.std.proofs.lemmas.Result.{err_from_is_err_and}
use Rattle.vx_json_rows.proofs.Fitted.{read_rows, fails_fitted, rows_that_fit}
use Rattle.vx_json_rows.proofs.flat.column_of.Goals as goal

pub returns-in_err-rows : goal.returns-in_err-rows
returns-in_err-rows c =
    let p = err_from_is_err_and c.from_residual.result c.from_residual.ensures.1 in
    rw (p.1, p.2) (fails_fitted _ _ _ c.in_err-rows.ensures)

pub returns-in-Ok : goal.returns-in-Ok
returns-in-Ok c = read_rows _ _ _ c.in_ok-rows.ensures ∙ ap Some (sym c.in-Ok.ensures.ok)

pub from_buffer-requires : goal.from_buffer-requires
from_buffer-requires c = rows_that_fit _ _ _ c.in_ok-rows.ensures
