use Rattle.std.proofs.Common.{subst, ℕ, ◌<◌, length}
use Rattle.vx_bulk.proofs.Constants.{runs_same, some_by_runs}
use Rattle.vx_bulk.proofs.bulk.repeated_by_runs.Goals as goal

pub repeated-requires-clause-some : goal.repeated-requires-clause-some
repeated-requires-clause-some g c = λ h. some_by_runs (length c.args.column.now.rows) c.args.runs.now c.requires.inside (subst (λ (n : ℕ). 0 < n) c.in-Some.ensures h)

pub returns-in-Some-clause-ok : goal.returns-in-Some-clause-ok
returns-in-Some-clause-ok g c =
    rw (runs_same c.args.column.now.rows c.args.row.now c.requires.same c.args.runs.now c.requires.inside, ← c.in-Some.ensures) c.repeated.ensures.ok
