use Rattle.std.proofs.Common.{◌∙◌, sym, ap, subst, arith, List}
use Rattle.vx_column.specs.Columns.{flat_of, len_of}
use Rattle.vx_job.specs.Plans.{Reaches, AreBounded, plan_bound}
use Rattle.vx_job.specs.PageView.{PageView}
use Rattle.vx_job.specs.declared.step.Step.{Step}
use Rattle.vx_pages.specs.Lines.{line}
use Rattle.vx_pages.specs.PageJson.{page_json}
use Rattle.vx_tool.proofs.reply.answer.Goals as goal

pub returns-in-Ok-clause-ok : goal.returns-in-Ok-clause-ok
returns-in-Ok-clause-ok g c =
    let parts = c.args.job.parts.items in
    let given = c.in-Ok.answers in
    let last = flat_of given.column in
    let plan = c.as_slice.ensures.value in
    record {
      answers = given.answers;
      last = last;
      reaches = subst (λ (p : List Step). Reaches parts p given.answers last) plan c.in-Ok.ensures.ok;
      written = c.from_vec.ensures ∙ c.in_ok-text-in-Ok.ensures.ok ∙ ap (λ (p : PageView). line (page_json p)) c.in_ok-page-in-Ok.ensures.ok;
      rise = λ bounded.
          let here : AreBounded parts c.as_slice.result.now = subst (AreBounded parts) (sym plan) bounded in
          omega (arith, c.in-Ok.ensures.rise here, c.into_rows.ensures.rise (c.in-Ok.ensures.plain here), c.in-Ok.ensures.select here (len_of given.column), ap (plan_bound parts) plan);
    }
