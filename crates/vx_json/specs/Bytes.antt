-- The job that bytes are.
use Rattle.std.specs.Prelude.{◌≡◌, ℕ, List, Some, None, IsUtf8}
use Rattle.serde_json.specs.Data.{Data}
use Rattle.serde_json.specs.Read.{read}
use Rattle.vx_job.specs.JobView.{JobView}
use Rattle.vx_json.specs.Job.{job_of}

-- the bytes are text, the text is JSON, and the JSON is a job that asks this
pub record IsJobOf (bytes : List ℕ) (a : JobView) : Type 0 where
  pub utf8 : IsUtf8 bytes
  pub json : Data
  pub reads : read bytes ≡ Some json
  pub job : job_of json ≡ Some a

abbrev pub HasNoJob : List ℕ → Type 0
HasNoJob bytes = (a : JobView) → IsJobOf bytes a → ⊥

-- the bytes are text, and the text is this JSON
abbrev pub IsJsonOf : List ℕ → Data → Type 0
IsJsonOf bytes json = IsUtf8 bytes × (read bytes ≡ Some json)

-- the bytes are no text, or the text is no JSON
abbrev pub HasNoJson : List ℕ → Type 0
HasNoJson bytes = IsUtf8 bytes → read bytes ≡ None
