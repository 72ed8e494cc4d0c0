use Rattle.std.proofs.Common.{arith, ◌∙◌, ◌≡◌, ◌<◌, ap, sym, subst, List, ℕ, None, take, vec_len, length, get_or}
use Rattle.vx_chunk_plans.specs.Takes.{IsChunkBelow, with_spot}
use Rattle.vx_chunk_plans.specs.Deals.{dealt, present}
use Rattle.vx_chunk_plans.proofs.Dealing.{length-dealt}
use Rattle.vx_chunk_plans.proofs.Taking.{chunk_below, spot_dealt}
use Rattle.vx_chunk_plans.proofs.take.deal.Goals as goal

pub put-requires : goal.put-requires
put-requires c =
    let spots = c.args.spots.now in
    let i = c.loop-spot.spot-index in
    let long : vec_len c.loop-spot.buckets ≡ c.args.count = omega (arith, ap length c.loop-spot.invariant, length-dealt 0 c.args.count (present (take i spots))) in
    subst (λ n. IsChunkBelow n (get_or spots i None)) (sym long) (chunk_below c.args.count spots i c.requires (omega arith))

pub loop-spot-preserved : goal.loop-spot-preserved
loop-spot-preserved c =
    let spots = c.args.spots.now in
    let i = c.loop-spot.spot-index in
    c.in_ok-put.ensures.ok ∙ ap (λ (bs : List (List ℕ)). with_spot bs (get_or spots i None)) c.loop-spot.invariant
    ∙ spot_dealt c.args.count spots i (omega arith) (chunk_below c.args.count spots i c.requires (omega arith))
