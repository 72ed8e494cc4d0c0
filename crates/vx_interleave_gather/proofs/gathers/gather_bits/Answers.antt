use Rattle.std.proofs.Common.{◌≡◌, ◌∙◌, List, subst}
use Rattle.std.proofs.lemmas.Result.{err_from_is_err_and}
use Rattle.vx_base.specs.Column.{Flat}
use Rattle.vx_interleave.specs.Rules.{selector_fault}
use Rattle.vx_interleave_gather.specs.Gathered.{GatherCause, lens_of}
use Rattle.vx_interleave_gather.proofs.gathers.gather_bits.Goals as goal

pub returns-in_err-column-clause-err : goal.returns-in_err-column-clause-err
returns-in_err-column-clause-err g c =
    let p = err_from_is_err_and c.from_residual-in_err-column.result c.from_residual-in_err-column.ensures.1 in
    rw (p.1, p.2) (subst (λ (vs : List Flat). GatherCause (selector_fault c.args.array_indices.now c.args.row_indices.now (lens_of vs)) c.in_err-column.field-0.0)
    (c.as_slice.ensures.value ∙ c.in_ok-columns.ensures.ok) c.in_err-column.ensures.err)
