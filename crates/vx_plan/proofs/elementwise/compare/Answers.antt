use Rattle.std.proofs.lemmas.Result.{on_ok_weaker}
use Rattle.vx_column.specs.Columns.{type_of}
use Rattle.vx_job.proofs.ElementwiseErrors.{compare_free}
use Rattle.vx_plan.proofs.elementwise.compare.Goals as goal

pub returns-clause-free : goal.returns-clause-free
returns-clause-free g c = on_ok_weaker c.compare.result (compare_free c.args.number (type_of c.args.column.now) c.args.value.now.dtype c.in_ok-check_plain.ensures.plain) c.compare.ensures.types
