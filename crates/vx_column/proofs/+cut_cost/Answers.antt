use Rattle.std.proofs.Common.{arith, ap, ◌∙◌, ◌+◌, length, map}
use Rattle.std.proofs.lemmas.List.{take_all, length-map}
use Rattle.vx_search.specs.Places.{search_bound}
use Rattle.vx_column.specs.Columns.{cut_cost, len_of}
use Rattle.vx_job.specs.Rows.{greatest}
use Rattle.vx_column.proofs.Cuts.{greatest_more, cut_cost_is}
use Rattle.vx_column.proofs.+cut_cost.Goals as goal

pub chunked::Chunked+Column::cut_cost-loop-chunk-preserved : goal.chunked::Chunked+Column::cut_cost-loop-chunk-preserved
chunked::Chunked+Column::cut_cost-loop-chunk-preserved t c =
    let xs = c.children-chunk-items.result.now in
    let k = c.loop-chunk.chunk-index in
    let more = greatest_more cut_cost xs k c.chunk-item.result (omega arith) c.chunk-item.is in
    omega (arith, c.max-greatest.ensures, c.cut_cost.ensures, c.loop-chunk.invariant, more)

pub chunked::Chunked+Column::cut_cost-returns : goal.chunked::Chunked+Column::cut_cost-returns
chunked::Chunked+Column::cut_cost-returns t c =
    let self = c.args.self.now in
    let xs = c.children-chunk-items.result.now in
    let bound = ap (λ n. search_bound (n + 1)) (ap length c.boundaries.ensures ∙ length-map self.chunks len_of) in
    let all = ap (λ ys. greatest (map cut_cost ys)) (take_all c.loop-chunk.chunk-index xs (omega arith) ∙ c.children-chunk-items.ensures.value) in
    omega (arith, c.saturating_add.ensures, c.search_cost.ensures, bound, c.loop-chunk.invariant, all, cut_cost_is self)
