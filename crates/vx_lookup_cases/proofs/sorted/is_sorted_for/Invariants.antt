use Rattle.std.proofs.Common.{◌≡◌, ◌-◌, ◌<◌, ◌≤◌, get_or}
use Rattle.std.specs.List.{AllAdjacentBelow}
use Rattle.std.specs.Ordering.{ordering_index}
use Rattle.vx_lookup_cases.proofs.sorted.is_sorted_for.Given as goal

abbrev pub invariant-loop-i : goal.invariant-loop-i
invariant-loop-i g l = record {
  so_far : AllAdjacentBelow (λ x y. ordering_index (g.S.IndexOrd.stands x l.value) ≤ ordering_index (g.S.IndexOrd.stands y l.value)) (g.S.IndexOrd.sequence l.fn.seq) l.i;
  last : (d : g.S.IndexOrd.Element) → 0 < l.i → ordering_index (g.S.IndexOrd.stands (get_or (g.S.IndexOrd.sequence l.fn.seq) (l.i - 1) d) l.value) ≡ l.last;
  same : g.S.IndexOrd.sequence l.seq ≡ g.S.IndexOrd.sequence l.fn.seq;
}
