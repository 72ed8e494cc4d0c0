use Rattle.std.proofs.Common.{◌+◌, ◌*◌, ◌≤◌}
use Rattle.vx_patch_select.specs.Plans.{IsTakenTo}
use Rattle.vx_patch_select.proofs.lookup.plan_take.Given as goal

abbrev pub invariant-loop-position : goal.invariant-loop-position
invariant-loop-position g l = record {
  taken : IsTakenTo l.include_nulls (g.P.Lookup.rows l.patches) l.indices l.position l.taken;
  spent : l.steps ≤ l.fn.steps + l.position * g.P.Lookup.lookup_cost l.patches;
  monotone : l.fn.steps ≤ l.steps;
}
