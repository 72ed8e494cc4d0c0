use Rattle.std.proofs.Common.{◌+◌, ◌*◌, ◌≤◌, take, map, IsTrue}
use Rattle.std.specs.List.{All}
use Rattle.vx_rows.specs.Fits.{rows_fit}
use Rattle.vx_job.specs.Rows.{Rows, greatest}
use Rattle.vx_column.specs.Columns.{rows_of, point_cost}
use Rattle.vx_select.specs.Spots.{AreAnswersOf}
use Rattle.vx_select.proofs.Costs.{before, lanes_at}
use Rattle.vx_select.proofs.Rising.{lists_at}
use Rattle.vx_select.proofs.gathering.+gather.Given as goal

abbrev pub invariant-rows_among-loop-k : goal.invariant-rows_among-loop-k
invariant-rows_among-loop-k g l = record {
  rows : AreAnswersOf (lists_at (map rows_of l.parts) l.number-items) l.among.items l.k l.rows.items;
  fit : All (λ (list : Rows). IsTrue (rows_fit l.dtype list)) l.rows.items;
  rise : l.steps ≤ l.initial.steps + (8 * before l.k l.among.items * greatest (map point_cost l.parts) + lanes_at l.parts (take l.k l.number-items));
  monotone : l.initial.steps ≤ l.steps;
}
