use Rattle.std.proofs.Common.{◌≡◌, ◌+◌, ◌*◌, ◌≤◌, ◌++◌, take}
use Rattle.vx_column.specs.Columns.{rows_of, point_cost, IsPlain}
use Rattle.vx_column.proofs.column.Column.append_each.Given as goal

abbrev pub invariant-loop-at : goal.invariant-loop-at
invariant-loop-at g l = record {
  appended : l.out ≡ l.initial.out ++ take l.at (rows_of l.self);
  rise : IsPlain l.self → l.steps ≤ l.initial.steps + l.at * point_cost l.self;
  monotone : l.initial.steps ≤ l.steps;
}
