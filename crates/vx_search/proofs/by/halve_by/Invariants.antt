use Rattle.std.proofs.Common.{◌-◌, ◌≡◌, ℕ, ◌+◌, ◌*◌, ◌<◌, ◌≤◌, IfOk}
use Rattle.std.specs.declared.cmp.Ordering.{Ordering}
use Rattle.vx_search.specs.Closures.{AnswersBelow, Reaches}
use Rattle.vx_search.specs.Halving.{Ascends, log_up, rounds}
use Rattle.vx_search.proofs.Halvings.{IsHalved}
use Rattle.vx_search.proofs.by.halve_by.Given as goal

abbrev pub invariant-loop-size : goal.invariant-loop-size
invariant-loop-size g l = record {
  front : l.from ≤ l.base;
  back : l.base + l.size ≤ l.to;
  some : 0 < l.size;
  callable : AnswersBelow g.F.FnMut l.to (λ _ _. Unit {0}) (log_up l.size + 1) l.find;
  halved : (f : ℕ → Ordering) → AnswersBelow g.F.FnMut l.to (λ k r. IfOk r (λ o. o ≡ f k)) (rounds (l.to - l.from)) l.fn.find → Ascends f l.to
      → AnswersBelow g.F.FnMut l.to (λ k r. IfOk r (λ o. o ≡ f k)) (log_up l.size + 1) l.find × IsHalved f l.from l.to l.base l.size;
  asked : (made : ℕ) × (made + log_up l.size ≤ log_up (l.to - l.from)) × Reaches g.F.FnMut l.to l.fn.find made l.find;
  monotone : l.fn.steps ≤ l.steps;
  spent : l.steps + log_up l.size * 1 ≤ l.fn.steps + log_up (l.to - l.from) * 1;
  least : l.fn.steps + log_up (l.to - l.from) ≤ l.steps + log_up l.size;
}

abbrev pub decreases-loop-size : goal.decreases-loop-size
decreases-loop-size g l = l.size
