use Rattle.std.proofs.Common.{arith, ◌∙◌, ◌+◌, ap, sym, Result, Ok, Err}
use Rattle.std.specs.Prelude.{OnOk}
use Rattle.vx_bulk.proofs.Constants.{picked_same, all_counted}
use Rattle.vx_bulk.proofs.Fitting.{fits_picked}
use Rattle.vx_bulk.proofs.bulk.taken.Goals as goal

-- a fact holds also where there is a value
on_ok : {T E P : Type 0} (r : Result T E) → P → OnOk r P
on_ok (Ok x) p = p
on_ok (Err e) p = tt

pub column_of-requires : goal.column_of-requires
column_of-requires g c =
    rw (c.dtype.ensures.dtype, c.in_ok-rows-in-None.ensures.ok)
    (fits_picked c.args.column.now.dtype c.args.column.now.rows c.args.places.now c.dtype.ensures.fits c.requires.inside c.requires.present)

pub returns-in-Some-clause-ok : goal.returns-in-Some-clause-ok
returns-in-Some-clause-ok g c =
    rw (picked_same c.args.column.now.rows c.in-Some.row.now c.in-Some.ensures c.args.places.now c.requires.inside c.requires.present) c.repeated.ensures.ok

pub returns-in-Some-clause-cost : goal.returns-in-Some-clause-cost
returns-in-Some-clause-cost g c =
    on_ok c.repeated.result (c.repeated.ensures.cost ∙ ap (λ n. c.args.steps.now + n) (sym (all_counted c.args.places.now c.requires.present)))

pub returns-in-Some-clause-most : goal.returns-in-Some-clause-most
returns-in-Some-clause-most g c = omega (arith, c.repeated.ensures.cost, all_counted c.args.places.now c.requires.present)
