use Rattle.std.proofs.Common.{sym, ap, subst, ◌∙◌, ◌≡◌, IsTrue}
use Rattle.vx_rows.specs.Fits.{rows_fit}
use Rattle.vx_rows.specs.declared.dtype.DType.{DType}
use Rattle.vx_base.specs.Column.{flat}
use Rattle.vx_masks.specs.Bits.{kept}
use Rattle.vx_masks.specs.Masks.{bits_of}
use Rattle.vx_column.specs.Columns.{rows_of, type_of}
use Rattle.vx_column.specs.declared.column.Column.TheVariants as column
use Rattle.vx_column.proofs.Layers.{type_chunked}
use Rattle.vx_select.proofs.Selected.{flat_selection}
use Rattle.vx_select.proofs.select.kept_chunked.Goals as goal

pub from_buffer-requires : goal.from_buffer-requires
from_buffer-requires g c =
    let typed = c.in_ok-dtype.ensures.ok ∙ c.dtype.ensures ∙ sym (type_chunked c.args.array.now) in
    subst (λ (t : DType). IsTrue (rows_fit t c.in_ok-rows.rows)) (sym typed) c.in_ok-rows.ensures.fits

pub returns-clause-ok : goal.returns-clause-ok
returns-clause-ok g c =
    let self = column.Chunked c.args.array.now in
    let typed = c.in_ok-dtype.ensures.ok ∙ c.dtype.ensures ∙ sym (type_chunked c.args.array.now) in
    let rows = kept (rows_of self) (bits_of c.args.mask.now) in
    flat_selection self c.flat.result (type_of self) rows
    (c.flat.ensures.value ∙ ap column.Flat (c.in_ok-part.ensures.ok ∙ ap (λ (t : DType). flat t c.in_ok-rows.rows) typed ∙ ap (flat (type_of self)) c.in_ok-rows.ensures.ok)) c.flat.ensures.sound
