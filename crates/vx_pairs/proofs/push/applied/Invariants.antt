use Rattle.std.proofs.Common.{◌≡◌, ◌≤◌, map, take, IsTrue}
use Rattle.vx_rows.specs.Fits.{rows_fit}
use Rattle.vx_pairs.proofs.push.applied.Given as goal

abbrev pub invariant-loop-i : goal.invariant-loop-i
invariant-loop-i g l = record {
  given : l.given ≡ map (λ row. g.F.RowFn.value_of l.f row l.siblings) (take l.i l.rows.rows);
  fits : IsTrue (rows_fit l.out l.given);
  monotone : l.initial.steps ≤ l.steps;
}
