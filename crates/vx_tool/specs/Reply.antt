-- The text that answers a job, and what it cost.
use Rattle.std.specs.Prelude.{◌≡◌, ◌≢◌, ℕ, ◌+◌, ◌≤◌, List, length}
use Rattle.vx_rows.specs.declared.error.ColumnError.{ColumnError}
use Rattle.vx_rows.specs.declared.error.ColumnError.TheVariants.{OutOfMemory}
use Rattle.vx_base.specs.Column.{Flat}
use Rattle.vx_job.specs.Plans.{Reaches, IsPlanError, AreBounded, plan_bound, rows_bound}
use Rattle.vx_job.specs.PageView.{page_view}
use Rattle.vx_job.specs.declared.page.Answer.{Answer}
use Rattle.vx_job.specs.JobView.{JobView}
use Rattle.vx_pages.specs.Lines.{line}
use Rattle.vx_pages.specs.PageJson.{page_json}
use Rattle.vx_pages.specs.RefusalJson.{refusal_json}
use Rattle.vx_tool.specs.declared.reply.Reply.{Reply}
use Rattle.vx_tool.specs.declared.reply.Reply.TheVariants as reply

-- The plan reaches its end, the text is the page of that on a line, and the count of reads rose within the bounds, where
-- the steps have one.
pub record IsPageOf (job : JobView) (text : List ℕ) (before after : ℕ) : Type 0 where
  pub answers : List Answer
  pub last : Flat
  pub reaches : Reaches job.parts job.plan answers last
  pub written : text ≡ line (page_json (page_view answers last.dtype last.rows))
  pub rise : AreBounded job.parts job.plan → after ≤ before + plan_bound job.parts job.plan + rows_bound job.parts (length last.rows)

-- The text is the refusal, on a line, of an error that is true of the job, and the count of reads rose within the plan's
-- bound, where its steps have one.
pub record IsRefusalOf (job : JobView) (text : List ℕ) (before after : ℕ) : Type 0 where
  pub error : ColumnError
  pub not_memory : error ≢ OutOfMemory
  pub admits : IsPlanError job.parts job.plan error
  pub written : text ≡ line (refusal_json error)
  pub rise : AreBounded job.parts job.plan → after ≤ before + plan_bound job.parts job.plan

-- the reply answers the job, while the count of reads went from a number to another
abbrev pub Answers : JobView → Reply → ℕ → ℕ → Type 0
Answers job (reply.Page text) before after = IsPageOf job text before after
Answers job (reply.Refusal text) before after = IsRefusalOf job text before after
