use Rattle.std.proofs.Common.{arith, sym, subst}
use Rattle.std.specs.List.{All}
use Rattle.vx_pairs.specs.Pairs.{IsPair, Cover}
use Rattle.vx_pairs.proofs.Ranges.{each_more, cover_more, pair_within}
use Rattle.vx_pairs.proofs.paired.ranges_of.Goals as goal

pub loop-row-preserved : goal.loop-row-preserved
loop-row-preserved c =
    let lens = c.args.left.now in
    let others = c.args.right.now in
    let before = c.loop-row.ranges.items in
    let range = c.range_from-range in
    let p = range.result in
    let more = sym c.in_ok-push.ensures.items in
    record {
      each = subst (All (IsPair lens others)) more (each_more lens others before p c.loop-row.invariant.each range.ensures.pair);
      cover = subst (Cover 0 p.pos.end) more (cover_more 0 before p (subst (λ n. Cover 0 n before) (sym range.ensures.from) c.loop-row.invariant.cover));
      within = pair_within lens others p range.ensures.pair;
      left_from = omega (arith, c.chunk_from-left_chunk.ensures.start, range.ensures.from, range.ensures.pair.some);
      right_from = omega (arith, c.chunk_from-right_chunk.ensures.start, range.ensures.from, range.ensures.pair.some);
    }
