use Rattle.std.proofs.Common.{refl, subst, arith}
use Rattle.std.proofs.lemmas.List.{take_all}
use Rattle.std.specs.List.{All}
use Rattle.vx_rows.specs.Types.{AlikeTypes}
use Rattle.vx_column.specs.Columns.{type_of}
use Rattle.vx_column.specs.declared.column.Column.{Column}
use Rattle.vx_column.proofs.Cuts.{all_more}
use Rattle.vx_column.proofs.kinds.all_alike.Goals as goal

pub loop-column-preserved : goal.loop-column-preserved
loop-column-preserved c =
    let P : Column → Type 0 = λ x. AlikeTypes (type_of x) c.args.dtype.now in
    all_more P c.args.columns.now c.loop-column.column-index c.column-item.result (omega arith) c.column-item.is c.loop-column.invariant
    (subst (λ t. AlikeTypes t c.args.dtype.now) c.dtype.ensures (c.eq_ignore_nullability.ensures.0 c.if-not-eq_ignore_nullability.false))

pub returns : goal.returns
returns c =
    let P : Column → Type 0 = λ x. AlikeTypes (type_of x) c.args.dtype.now in
    (λ _. subst (All P) (take_all _ c.args.columns.now (omega arith)) c.loop-column.invariant, λ _. refl)
