use Rattle.std.proofs.Common.{arith, ap, sym, ◌∙◌, ◌≡◌, List, ℕ, take, length, get_or, set, [], ◌∷◌, ◌++◌}
use Rattle.vx_chunk_plans.specs.Deals.{dealt}
use Rattle.vx_chunk_plans.proofs.Dealing.{length-dealt}
use Rattle.vx_chunk_plans.proofs.Cutting.{part_dealt}
use Rattle.vx_chunk_plans.proofs.runs.deal.Goals as goal

pub put-requires : goal.put-requires
put-requires c = omega (arith, ap length c.loop-chunk.invariant, length-dealt 0 c.args.count (take c.loop-chunk.chunk-index c.args.parts.now), c.requires c.loop-chunk.chunk-index (0, (0, 0)) (omega arith))

pub loop-chunk-preserved : goal.loop-chunk-preserved
loop-chunk-preserved c =
    let parts = c.args.parts.now in
    let i = c.loop-chunk.chunk-index in
    c.in_ok-put.ensures.ok ∙ part_dealt c.args.count parts i (0, (0, 0)) c.loop-chunk.pieces.items (omega arith) c.requires c.loop-chunk.invariant
