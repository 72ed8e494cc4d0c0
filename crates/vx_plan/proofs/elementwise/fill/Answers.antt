use Rattle.vx_column.specs.Columns.{type_of}
use Rattle.vx_job.proofs.ElementwiseErrors.{fill_free}
use Rattle.vx_plan.proofs.Changing.{some_there}
use Rattle.vx_plan.proofs.Selecting.{on_both}
use Rattle.vx_plan.proofs.elementwise.fill.Goals as goal

pub returns-clause-free : goal.returns-clause-free
returns-clause-free g c =
    let value = c.args.value.now in
    on_both c.fill.result (λ alike some. fill_free c.args.number (type_of c.args.column.now) value c.in_ok-check_plain.ensures.plain alike (some_there value.row some)) c.fill.ensures.types c.fill.ensures.present
