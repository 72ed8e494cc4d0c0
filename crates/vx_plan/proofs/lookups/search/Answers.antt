use Rattle.vx_column.specs.Columns.{type_of, rows_of}
use Rattle.vx_job.proofs.LookupErrors.{search_free}
use Rattle.vx_plan.proofs.Changing.{on_two}
use Rattle.vx_plan.proofs.lookups.search.Goals as goal

pub returns-clause-free : goal.returns-clause-free
returns-clause-free g c =
    let x = c.args.column.now in
    on_two c.search.result (search_free c.args.number (type_of x) (rows_of x) c.args.value.now.dtype c.in_ok-check_plain.ensures.plain) c.search.ensures.alike c.search.ensures.sorted
