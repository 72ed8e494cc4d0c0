-- Bytes are at most one job.
use Rattle.std.proofs.Common.{◌≡◌, ℕ, List}
use Rattle.vx_json.specs.Bytes.{IsJobOf}
use Rattle.vx_job.specs.JobView.{JobView}

pub one_job : {bytes : List ℕ} {a b : JobView} → IsJobOf bytes a → IsJobOf bytes b → a ≡ b
one_job p q = cc
