use Rattle.vx_haystack.proofs.Searches.{any_kept, kept_sorted}
use Rattle.vx_haystack.proofs.sorted.SortedList.new.Goals as goal

pub invariant_of-result : goal.invariant_of-result
invariant_of-result g c = kept_sorted g.met.T.Ord.total g.met.T.Ord.matches_eq _ _ c.sort_unstable.ensures.sorted c.dedup.ensures.filtered

pub returns : goal.returns
returns g c = any_kept g.met.T.Ord.matches_eq c.args.items.items _ _ c.sort_unstable.ensures.permutation c.dedup.ensures.filtered
