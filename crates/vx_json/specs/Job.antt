-- The JSON that a job is.
use Rattle.std.specs.Prelude.{codes, Option, Some}
use Rattle.serde_json.specs.Data.{Data}
use Rattle.serde_json.specs.Find.{get}
use Rattle.vx_job.specs.JobView.{JobView}
use Rattle.vx_json_rows.specs.Forms.{◌>>=◌, object_of, list_of}
use Rattle.vx_json.specs.Parts.{part_of}
use Rattle.vx_json.specs.Steps.{step_of}

-- `{"parts":[P],"plan":[S]}`
unfoldable pub job_of : Data → Option JobView
job_of d = do
  len ← object_of 2 d
  part_items ← get (codes "parts") d
  step_items ← get (codes "plan") d
  parts ← list_of part_of part_items
  plan ← list_of step_of step_items
  Some (record { parts = parts; plan = plan })
