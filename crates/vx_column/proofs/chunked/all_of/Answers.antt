use Rattle.std.proofs.Common.{refl, ◌∙◌, subst, sym, arith}
use Rattle.std.proofs.lemmas.List.{take_all}
use Rattle.std.specs.List.{All}
use Rattle.vx_column.specs.Columns.{IsOf}
use Rattle.vx_column.proofs.Cuts.{all_more}
use Rattle.vx_column.proofs.chunked.all_of.Goals as goal

pub loop-column-preserved : goal.loop-column-preserved
loop-column-preserved c =
    all_more (IsOf c.args.dtype.now) c.args.columns.now c.loop-column.column-index c.column-item.result (omega arith) c.column-item.is c.loop-column.invariant
    (sym c.dtype.ensures ∙ c.same_type.ensures.0 c.if-not-same_type.false)

pub returns : goal.returns
returns c = (λ _. subst (All (IsOf c.args.dtype.now)) (take_all _ c.args.columns.now (omega arith)) c.loop-column.invariant, λ _. refl)
