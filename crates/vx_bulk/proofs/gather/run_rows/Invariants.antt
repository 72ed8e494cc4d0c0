use Rattle.std.proofs.Common.{◌≡◌, ◌+◌, take}
use Rattle.std.specs.Prelude.{sum_by}
use Rattle.vx_bulk.specs.Selections.{joined_runs}
use Rattle.vx_bulk.proofs.gather.run_rows.Given as goal

abbrev pub invariant-loop-start : goal.invariant-loop-start
invariant-loop-start g l = record {
  rows : l.rows ≡ joined_runs l.column.rows (take l.start-index l.runs);
  cost : l.steps ≡ l.fn.steps + sum_by (λ run. run.1) (take l.start-index l.runs);
}
