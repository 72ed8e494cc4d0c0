use Rattle.std.proofs.Common.{sym, subst, ◌∙◌, ◌≡◌, IsTrue}
use Rattle.std.proofs.lemmas.Result.{IfOk-weaker}
use Rattle.vx_rows.specs.Fits.{rows_fit}
use Rattle.vx_rows.specs.declared.dtype.DType.{DType}
use Rattle.vx_base.specs.Column.{Flat, flat}
use Rattle.vx_job.specs.Rows.{Rows}
use Rattle.vx_column.specs.Columns.{flat_of, type_of}
use Rattle.vx_pairs.proofs.flat.copied_rows.Goals as goal

pub from_buffer-requires : goal.from_buffer-requires
from_buffer-requires g c =
    let self = c.args.column.now in
    let typed = c.in_ok-dtype.ensures.ok ∙ c.dtype.ensures in
    let fit = subst (λ (r : Rows). IsTrue (rows_fit (type_of self) r)) (sym c.in_ok-rows.ensures.ok) c.each_fits.ensures in
    subst (λ (t : DType). IsTrue (rows_fit t c.in_ok-rows.rows)) (sym typed) fit

pub returns-clause-ok : goal.returns-clause-ok
returns-clause-ok g c =
    let typed = c.in_ok-dtype.ensures.ok ∙ c.dtype.ensures in
    let same = c.in_ok-rows.ensures.ok in
    IfOk-weaker c.from_buffer.result (λ (f : Flat). f ≡ flat c.in_ok-dtype.dtype c.in_ok-rows.rows) (λ (f : Flat). f ≡ flat_of c.args.column.now)
    (λ f e. e ∙ (λ i. flat (typed i) (same i))) c.from_buffer.ensures.ok
