use Rattle.std.proofs.Common.{refl}
use Rattle.std.proofs.lemmas.Result.{IfOk-weaker}
use Rattle.vx_column.specs.Columns.{IsSound, type_of, len_of}
use Rattle.vx_job.proofs.SelectionErrors.{runs_free}
use Rattle.vx_plan.specs.AnswersView.{CostsNoMore}
use Rattle.vx_plan.proofs.Selecting.{selected_flat, selected_costs, on_both}
use Rattle.vx_plan.proofs.selections.join_runs.Goals as goal

pub returns-clause-sound : goal.returns-clause-sound
returns-clause-sound g c = IfOk-weaker c.runs.result _ IsSound (λ part is. is.sound) c.runs.ensures.ok

pub returns-clause-ok : goal.returns-clause-ok
returns-clause-ok g c =
    let x = c.args.column.now in
    IfOk-weaker c.runs.result _ _ (λ part is. selected_flat x (type_of x) _ part is) c.runs.ensures.ok

pub returns-clause-costs : goal.returns-clause-costs
returns-clause-costs g c =
    let x = c.args.column.now in
    IfOk-weaker c.runs.result _ (CostsNoMore x) (λ part is. selected_costs x (type_of x) _ part refl is) c.runs.ensures.ok

pub returns-clause-free : goal.returns-clause-free
returns-clause-free g c =
    on_both c.runs.result (λ sum inside. runs_free (len_of c.args.column.now) c.args.len c.args.runs.now sum inside) c.runs.ensures.sum c.runs.ensures.inside
