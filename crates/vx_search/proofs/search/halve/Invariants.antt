use Rattle.std.proofs.Common.{◌-◌, ◌≡◌, ◌+◌, ◌*◌, ◌≤◌}
use Rattle.vx_search.specs.Answers.{standing}
use Rattle.vx_search.specs.Halving.{asked_at, log_up}
use Rattle.vx_search.proofs.Halvings.{IsHalved}
use Rattle.vx_search.proofs.search.halve.Given as goal

abbrev pub invariant-loop-size : goal.invariant-loop-size
invariant-loop-size g l = record {
  halved : IsHalved (asked_at l.question (standing g.S.IndexOrd.stands (g.S.IndexOrd.sequence l.fn.seq) l.value)) l.from l.to l.base l.size;
  same : g.S.IndexOrd.sequence l.seq ≡ g.S.IndexOrd.sequence l.fn.seq;
  same_cost : g.S.IndexOrd.cmp_cost l.seq ≡ g.S.IndexOrd.cmp_cost l.fn.seq;
  same_memory : g.S.IndexOrd.takes_memory l.seq ≡ g.S.IndexOrd.takes_memory l.fn.seq;
  monotone : l.fn.steps ≤ l.steps;
  spent : l.steps + log_up l.size * g.S.IndexOrd.cmp_cost l.fn.seq ≤ l.fn.steps + log_up (l.to - l.from) * g.S.IndexOrd.cmp_cost l.fn.seq;
}

abbrev pub decreases-loop-size : goal.decreases-loop-size
decreases-loop-size g l = l.size
