use Rattle.std.proofs.Common.{arith, subst, sym, ◌≡◌, ◌+◌, ◌<◌, true, drop, take, get_or, length, None, Option, List}
use Rattle.std.specs.List.{AllZip}
use Rattle.vx_chunks.specs.Bounds.{total}
use Rattle.vx_chunk_plans.specs.Takes.{IsSpotOf, never_falls}
use Rattle.vx_chunk_plans.proofs.Taking.{Spots, from_here, spots_more, rest_here}
use Rattle.vx_chunk_plans.proofs.take.walked.Goals as goal

pub walk-next-requires-clause-inside : goal.walk-next-requires-clause-inside
walk-next-requires-clause-inside c = c.requires.inside c.loop-at.at-index None (omega arith)

pub walk-next-requires-clause-start : goal.walk-next-requires-clause-start
walk-next-requires-clause-start c = from_here c.args.indices.now c.loop-at.at-index (total (take c.loop-at.chunk c.args.boundaries.now)) (omega arith) c.loop-at.invariant.rest

pub loop-at-preserved : goal.loop-at-preserved
loop-at-preserved c =
    let lens = c.args.boundaries.now in
    let indices = c.args.indices.now in
    let i = c.loop-at.at-index in
    let spot = c.walk-next.result.1 in
    let inside : i < length indices = omega arith in
    record {
      spots = subst (λ (ss : Spots). AllZip (IsSpotOf lens) (take (i + 1) indices) ss) (sym c.in_ok-push.ensures.items)
          (spots_more lens indices i c.loop-at.spots.items spot inside c.loop-at.invariant.spots c.walk-next.ensures.spot);
      rest = subst (λ n. never_falls (total (take n lens)) (drop (i + 1) indices) ≡ true) (sym c.walk-next.ensures.chunk)
          (rest_here lens indices i c.loop-at.chunk spot inside c.walk-next.ensures.spot c.loop-at.invariant.rest);
    }
