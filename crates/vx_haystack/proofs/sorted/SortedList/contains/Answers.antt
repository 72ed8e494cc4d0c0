use Rattle.vx_haystack.proofs.Searches.{found}
use Rattle.vx_haystack.proofs.sorted.SortedList.contains.Goals as goal

pub returns : goal.returns
returns g c =
    rw (c.is_ok.ensures.value, ← c.self.view_is, ← c.as_slice.ensures.value)
    (found g.met.T.Ord.total c.as_slice.result.now c.args.x.now _ (rw c.as_slice.ensures.value c.self.invariant) c.binary_search.ensures.bound c.binary_search.ensures.position)
