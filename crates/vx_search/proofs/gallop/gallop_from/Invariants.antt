use Rattle.std.proofs.Common.{◌-◌, ◌≡◌, ℕ, ◌+◌, ◌*◌, ◌<◌, ◌≤◌, true, slice_index_or}
use Rattle.std.specs.declared.cmp.Ordering.TheVariants.{Less}
use Rattle.std.specs.Ordering.{is_lt}
use Rattle.vx_search.specs.Answers.{standing}
use Rattle.vx_search.specs.Halving.{rounds}
use Rattle.vx_search.proofs.Powers.{IsGallop}
use Rattle.vx_search.proofs.gallop.gallop_from.Given as goal

abbrev pub invariant-loop-stride : goal.invariant-loop-stride
invariant-loop-stride g l = record {
  front : l.start ≤ l.low;
  gallop : IsGallop (l.len - l.start) l.stride (l.low - l.start);
  less : (k : ℕ) → l.start ≤ k → k < l.low → is_lt (slice_index_or (standing g.S.IndexOrd.stands (g.S.IndexOrd.sequence l.fn.seq) l.needle) k Less) ≡ true;
  same : g.S.IndexOrd.sequence l.seq ≡ g.S.IndexOrd.sequence l.fn.seq;
  same_cost : g.S.IndexOrd.cmp_cost l.seq ≡ g.S.IndexOrd.cmp_cost l.fn.seq;
  same_memory : g.S.IndexOrd.takes_memory l.seq ≡ g.S.IndexOrd.takes_memory l.fn.seq;
  monotone : l.fn.steps ≤ l.steps;
  spent : l.steps ≤ l.fn.steps + rounds (l.low - l.start) * g.S.IndexOrd.cmp_cost l.fn.seq;
}

abbrev pub decreases-loop-stride : goal.decreases-loop-stride
decreases-loop-stride g l = l.len - l.low
