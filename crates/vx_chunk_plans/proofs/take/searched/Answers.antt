use Rattle.std.proofs.Common.{arith, subst, sym, ◌+◌, ◌<◌, take, None, length, get_or}
use Rattle.std.specs.List.{AllZip}
use Rattle.vx_search.specs.Places.{search_bound}
use Rattle.vx_chunk_plans.specs.Takes.{IsSpotOf}
use Rattle.vx_chunk_plans.proofs.Taking.{Spots, spots_more, cost_more, cost_within}
use Rattle.vx_chunk_plans.proofs.take.searched.Goals as goal

pub search-spot-requires : goal.search-spot-requires
search-spot-requires g c = c.requires c.loop-at.at-index None (omega arith)

pub loop-at-preserved : goal.loop-at-preserved
loop-at-preserved g c =
    let lens = c.args.boundaries.now in
    let indices = c.args.indices.now in
    let i = c.loop-at.at-index in
    let inside : i < length indices = omega arith in
    record {
      spots = subst (λ (ss : Spots). AllZip (IsSpotOf lens) (take (i + 1) indices) ss) (sym c.in_ok-push.ensures.items)
          (spots_more lens indices i c.loop-at.spots.items c.search-spot.result inside c.loop-at.invariant.spots c.search-spot.ensures.spot);
      cost = cost_more indices i c.args.steps.now c.loop-at.steps c.search-spot.new.steps (search_bound (length lens + 1)) inside c.loop-at.invariant.cost c.search-spot.ensures.rise;
      rise = omega arith;
    }

pub returns-in_err-push-clause-rise : goal.returns-in_err-push-clause-rise
returns-in_err-push-clause-rise g c =
    cost_within c.args.indices.now c.loop-at.at-index c.args.steps.now c.loop-at.steps c.search-spot.new.steps (search_bound (length c.args.boundaries.now + 1)) (omega arith) c.loop-at.invariant.cost c.search-spot.ensures.rise
