use Rattle.std.proofs.lemmas.Result.{IfOk-weaker, on_ok_weaker}
use Rattle.vx_column.specs.Columns.{IsSound, type_of, len_of}
use Rattle.vx_bulk.specs.Types.{taken_type}
use Rattle.vx_job.proofs.SelectionErrors.{take_free}
use Rattle.vx_plan.specs.AnswersView.{CostsNoMore}
use Rattle.vx_plan.proofs.Selecting.{selected_flat, selected_costs, taken_nested}
use Rattle.vx_plan.proofs.selections.take.Goals as goal

pub returns-clause-sound : goal.returns-clause-sound
returns-clause-sound g c = IfOk-weaker c.take.result _ IsSound (λ part is. is.sound) c.take.ensures.ok

pub returns-clause-ok : goal.returns-clause-ok
returns-clause-ok g c =
    let x = c.args.column.now in
    IfOk-weaker c.take.result _ _ (λ part is. selected_flat x (taken_type (type_of x) c.args.indices.now) _ part is) c.take.ensures.ok

pub returns-clause-costs : goal.returns-clause-costs
returns-clause-costs g c =
    let x = c.args.column.now in
    IfOk-weaker c.take.result _ (CostsNoMore x)
    (λ part is. selected_costs x (taken_type (type_of x) c.args.indices.now) _ part (taken_nested (type_of x) c.args.indices.now) is) c.take.ensures.ok

pub returns-clause-free : goal.returns-clause-free
returns-clause-free g c = on_ok_weaker c.take.result (λ inside. take_free (len_of c.args.column.now) c.args.indices.now inside) c.take.ensures.inside
