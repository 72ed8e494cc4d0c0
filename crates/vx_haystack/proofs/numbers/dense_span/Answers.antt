use Rattle.std.proofs.Common.{◌∙◌, ap, sym}
use Rattle.std.specs.Option.{is_some}
use Rattle.vx_haystack.proofs.Density.{span_is, dense_is, none_dense}
use Rattle.vx_haystack.proofs.numbers.dense_span.Goals as goal

pub returns-in_err-span-clause-dense : goal.returns-in_err-span-clause-dense
returns-in_err-span-clause-dense g c =
    ap is_some c.from_residual-in_err-span.ensures
    ∙ sym (none_dense g.T.SetInteger.number c.args.values.now g.T.SetInteger.count _ _ c.in_ok-least.ensures.some c.in_ok-least.ensures.least c.in_ok-least.ensures.greatest (sym c.offset_from.ensures ∙ c.in_err-span.was))

pub returns-then-is_dense-clause-dense : goal.returns-then-is_dense-clause-dense
returns-then-is_dense-clause-dense g c =
    sym c.if-is_dense.true ∙ c.is_dense.ensures
    ∙ dense_is g.T.SetInteger.number c.args.values.now g.T.SetInteger.count _ _ c.in_ok-least.ensures.some c.in_ok-least.ensures.least c.in_ok-least.ensures.greatest c.in_ok-span.span (sym c.in_ok-span.ensures)

pub returns-then-is_dense-clause-span : goal.returns-then-is_dense-clause-span
returns-then-is_dense-clause-span g c =
    span_is g.T.SetInteger.number c.args.values.now g.T.SetInteger.count _ _ c.in_ok-least.ensures.some c.in_ok-least.ensures.least c.in_ok-least.ensures.greatest c.in_ok-span.span (sym c.in_ok-span.ensures)

pub returns-else-is_dense-clause-dense : goal.returns-else-is_dense-clause-dense
returns-else-is_dense-clause-dense g c =
    sym c.if-is_dense.false ∙ c.is_dense.ensures
    ∙ dense_is g.T.SetInteger.number c.args.values.now g.T.SetInteger.count _ _ c.in_ok-least.ensures.some c.in_ok-least.ensures.least c.in_ok-least.ensures.greatest c.in_ok-span.span (sym c.in_ok-span.ensures)
