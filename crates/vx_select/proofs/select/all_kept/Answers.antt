use Rattle.std.proofs.Common.{◌≡◌}
use Rattle.std.proofs.lemmas.Result.{IfOk-weaker}
use Rattle.vx_masks.specs.Bits.{kept}
use Rattle.vx_masks.specs.Masks.{bits_of}
use Rattle.vx_column.specs.Columns.{rows_of, type_of}
use Rattle.vx_select.specs.Chosen.{IsSelectionOf}
use Rattle.vx_select.proofs.Chosen.{all_kept}
use Rattle.vx_select.proofs.Selected.{whole_selection}
use Rattle.vx_select.proofs.select.all_kept.Goals as goal

pub returns-clause-ok : goal.returns-clause-ok
returns-clause-ok c =
    let self = c.args.column.now in
    let bits = bits_of c.args.mask.now in
    let rows = all_kept (rows_of self) bits c.requires.long c.requires.all in
    IfOk-weaker c.share.result (λ part. part ≡ self) (IsSelectionOf self (type_of self) (kept (rows_of self) bits)) (λ part e. whole_selection self part (kept (rows_of self) bits) e c.requires.sound rows) c.share.ensures.ok
