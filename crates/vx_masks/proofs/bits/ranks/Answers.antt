use Rattle.std.proofs.Common.{◌≡◌, ◌∙◌, ◌+◌, ◌∷◌, [], ◌++◌, ℕ, List, ap, sym, map}
use Rattle.std.specs.List.{range_with_len}
use Rattle.vx_masks.proofs.Counts.{block_rank, rank_more, ranks_more}
use Rattle.vx_masks.proofs.bits.ranks.Goals as goal

pub loop-block-preserved : goal.loop-block-preserved
loop-block-preserved c =
    let more : c.loop-block.count + c.true_count-count.result ≡ block_rank c.args.bits.now (c.loop-block.block + 1) =
    ap (λ n. c.loop-block.count + n) c.true_count-count.ensures ∙ rank_more c.args.bits.now c.loop-block.block c.loop-block.count c.loop-block.invariant.1 in (
      c.in_ok-push-2.ensures.items
          ∙ ap (λ (xs : List ℕ). xs ++ (c.loop-block.count + c.true_count-count.result) ∷ []) c.loop-block.invariant.0
          ∙ ap (λ n. map (block_rank c.args.bits.now) (range_with_len 0 (c.loop-block.block + 1)) ++ n ∷ []) more
          ∙ sym (ranks_more c.args.bits.now c.loop-block.block),
      more,
    )
