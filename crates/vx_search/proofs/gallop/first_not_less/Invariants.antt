use Rattle.std.proofs.Common.{◌-◌, ◌≡◌, ℕ, ◌+◌, ◌*◌, ◌<◌, ◌≤◌, true, false, slice_index_or}
use Rattle.std.specs.declared.cmp.Ordering.TheVariants.{Less}
use Rattle.std.specs.Ordering.{is_lt}
use Rattle.vx_search.specs.Answers.{standing}
use Rattle.vx_search.specs.Halving.{log_up}
use Rattle.vx_search.proofs.gallop.first_not_less.Given as goal

abbrev pub invariant-loop-first : goal.invariant-loop-first
invariant-loop-first g l = record {
  front : l.low ≤ l.first;
  some : l.first ≤ l.end;
  back : l.end ≤ l.high;
  less : (k : ℕ) → l.low ≤ k → k < l.first → is_lt (slice_index_or (standing g.S.IndexOrd.stands (g.S.IndexOrd.sequence l.fn.seq) l.needle) k Less) ≡ true;
  more : l.end < l.high → is_lt (slice_index_or (standing g.S.IndexOrd.stands (g.S.IndexOrd.sequence l.fn.seq) l.needle) l.end Less) ≡ false;
  same : g.S.IndexOrd.sequence l.seq ≡ g.S.IndexOrd.sequence l.fn.seq;
  same_cost : g.S.IndexOrd.cmp_cost l.seq ≡ g.S.IndexOrd.cmp_cost l.fn.seq;
  same_memory : g.S.IndexOrd.takes_memory l.seq ≡ g.S.IndexOrd.takes_memory l.fn.seq;
  monotone : l.fn.steps ≤ l.steps;
  spent : l.steps + log_up (l.end - l.first + 1) * g.S.IndexOrd.cmp_cost l.fn.seq ≤ l.fn.steps + log_up (l.high - l.low + 1) * g.S.IndexOrd.cmp_cost l.fn.seq;
}

abbrev pub decreases-loop-first : goal.decreases-loop-first
decreases-loop-first g l = l.end - l.first
