use Rattle.std.proofs.Common.{arith, ap, ◌∙◌, ◌+◌, length, map}
use Rattle.std.proofs.lemmas.List.{take_all, length-map}
use Rattle.vx_search.specs.Places.{search_bound}
use Rattle.vx_column.specs.Columns.{point_cost, len_of}
use Rattle.vx_job.specs.Rows.{greatest}
use Rattle.vx_column.proofs.Cuts.{greatest_more, point_cost_is}
use Rattle.vx_column.proofs.Layers.{lanes_here, point_interleave}
use Rattle.vx_lanes.proofs.Entries.{lanes_some}
use Rattle.vx_column.proofs.+point_cost.Goals as goal

pub chunked::Chunked+Column::point_cost-loop-chunk-preserved : goal.chunked::Chunked+Column::point_cost-loop-chunk-preserved
chunked::Chunked+Column::point_cost-loop-chunk-preserved t c =
    let xs = c.children-chunk-items.result.now in
    let k = c.loop-chunk.chunk-index in
    let more = greatest_more point_cost xs k c.chunk-item.result (omega arith) c.chunk-item.is in
    omega (arith, c.max-greatest.ensures, c.point_cost.ensures, c.loop-chunk.invariant, more)

pub chunked::Chunked+Column::point_cost-returns : goal.chunked::Chunked+Column::point_cost-returns
chunked::Chunked+Column::point_cost-returns t c =
    let self = c.args.self.now in
    let xs = c.children-chunk-items.result.now in
    let bound = ap (λ n. search_bound (n + 1)) (ap length c.boundaries.ensures ∙ length-map self.chunks len_of) in
    let all = ap (λ ys. greatest (map point_cost ys)) (take_all c.loop-chunk.chunk-index xs (omega arith) ∙ c.children-chunk-items.ensures.value) in
    omega (arith, c.saturating_add.ensures, c.search_cost.ensures, bound, c.loop-chunk.invariant, all, point_cost_is self)

pub interleave::Interleave+Column::point_cost-loop-value-preserved : goal.interleave::Interleave+Column::point_cost-loop-value-preserved
interleave::Interleave+Column::point_cost-loop-value-preserved t c =
    let xs = c.children-value-items.result.now in
    let k = c.loop-value.value-index in
    let more = greatest_more point_cost xs k c.value-item.result (omega arith) c.value-item.is in
    omega (arith, c.max-greatest.ensures, c.point_cost.ensures, c.loop-value.invariant, more)

pub interleave::Interleave+Column::point_cost-returns : goal.interleave::Interleave+Column::point_cost-returns
interleave::Interleave+Column::point_cost-returns t c =
    let self = c.args.self.now in
    let xs = c.children-value-items.result.now in
    let all = ap (λ ys. greatest (map point_cost ys)) (take_all c.loop-value.value-index xs (omega arith) ∙ c.children-value-items.ensures.value) in
    omega (arith, c.saturating_add.ensures, c.loop-value.invariant, all, point_interleave self)

pub patched::Patched+Column::point_cost-nonzero_div-own : goal.patched::Patched+Column::point_cost-nonzero_div-own
patched::Patched+Column::point_cost-nonzero_div-own t c = let some = lanes_some c.args.self.now.lanes (lanes_here c.args.self.now c.requires).sound in omega (arith, some, c.n_lanes.ensures)
