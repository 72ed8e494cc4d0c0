use Rattle.vx_column.specs.Columns.{type_of, rows_of}
use Rattle.vx_job.proofs.ElementwiseErrors.{cast_free}
use Rattle.vx_plan.proofs.Changing.{on_three}
use Rattle.vx_plan.proofs.elementwise.cast.Goals as goal

pub returns-clause-free : goal.returns-clause-free
returns-clause-free g c =
    let x = c.args.column.now in
    on_three c.cast.result (λ own target fits. cast_free c.args.number (type_of x) (rows_of x) c.args.target.now c.in_ok-check_plain.ensures.plain own target fits) c.cast.ensures.own c.cast.ensures.target c.cast.ensures.fits
