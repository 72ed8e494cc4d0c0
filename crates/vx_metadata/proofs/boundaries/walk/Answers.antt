use Rattle.std.proofs.Common.{◌≡◌, ◌-◌, length, ap, ◌∙◌, arith}
use Rattle.vx_metadata.specs.Boundaries.{bound_at}
use Rattle.vx_metadata.proofs.Spans.{none_off, one_more_off, all_off}
use Rattle.vx_metadata.proofs.boundaries.walk.Goals as goal

pub loop-k-init : goal.loop-k-init
loop-k-init g c = record { end = c.requires.start; off = none_off c.args.chunk_offsets.now c.args.chunks.now; cost = omega arith }

pub loop-k-preserved : goal.loop-k-preserved
loop-k-preserved g c =
    let h = c.loop-k.invariant in
    record {
      end = c.bound_at-next.ensures.bound;
      off = one_more_off c.args.chunk_offsets.now c.args.chunks.now c.loop-k.k c.index-chunks-k.result c.loop-k.off_span c.is_off-off_span.result c.len.result c.loop-k.end c.bound_at-next.result
          c.is_off-off_span.ensures (omega arith) c.index-chunks-k.is h.off c.len.ensures h.end c.bound_at-next.ensures.bound;
      cost = omega (arith, c.bound_at-next.ensures.cost, h.cost);
    }

pub returns-clause-end : goal.returns-clause-end
returns-clause-end g c =
    let last : c.loop-k.k ≡ length c.args.chunk_offsets.now.rows - 1 = omega (arith, c.requires.count) in
    c.loop-k.invariant.end ∙ ap (bound_at c.args.chunk_offsets.now) last

pub returns-clause-off : goal.returns-clause-off
returns-clause-off g c = all_off c.args.chunk_offsets.now c.args.chunks.now c.loop-k.k c.loop-k.off_span (omega arith) c.loop-k.invariant.off

pub returns-clause-cost : goal.returns-clause-cost
returns-clause-cost g c = omega (arith, c.loop-k.invariant.cost)
