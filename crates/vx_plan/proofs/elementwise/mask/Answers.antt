use Rattle.std.proofs.Common.{length}
use Rattle.std.proofs.lemmas.Result.{on_ok_weaker}
use Rattle.vx_column.specs.Columns.{len_of}
use Rattle.vx_job.proofs.SelectionErrors.{length_free}
use Rattle.vx_plan.proofs.elementwise.mask.Goals as goal

pub returns-clause-free : goal.returns-clause-free
returns-clause-free g c = on_ok_weaker c.mask.result (length_free (len_of c.args.column.now) (length c.args.mask.now)) c.mask.ensures.long
