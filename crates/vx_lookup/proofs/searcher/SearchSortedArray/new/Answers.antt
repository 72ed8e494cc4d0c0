use Rattle.vx_column.proofs.Layers.{each_plain}
use Rattle.vx_lookup.proofs.searcher.SearchSortedArray.new.Goals as goal

pub invariant_of-result : goal.invariant_of-result
invariant_of-result c = each_plain c.new.result
