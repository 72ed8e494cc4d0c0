use Rattle.std.proofs.Common.{arith, ap, sym, subst, ◌∙◌, ◌≡◌, ◌<◌, ◌+◌, ℕ, List, map, take, length, get_or, length-append, [], ◌∷◌, ◌++◌}
use Rattle.std.proofs.lemmas.List.{length-map}
use Rattle.vx_chunks.specs.Bounds.{total}
use Rattle.vx_chunks.proofs.Sums.{total-take_more, total-take_le}
use Rattle.vx_chunk_plans.specs.Runs.{run_total}
use Rattle.vx_chunk_plans.proofs.Taking.{start_more}
use Rattle.vx_chunk_plans.proofs.Cutting.{total_at}
use Rattle.vx_chunk_plans.proofs.runs.starts.Goals as goal

-- the width of the piece
pub rows_in-sum-requires : goal.rows_in-sum-requires
rows_in-sum-requires c =
    let pieces = c.args.pieces.now in
    let i = c.loop-piece.piece-index in
    let ws = map run_total pieces in
    let width = total_at pieces i c.piece-item.result (omega arith) ∙ ap run_total (sym c.piece-item.is ∙ sym c.as_slice.ensures) in
    omega (arith, c.requires, width, total-take_more ws i 0 (omega (arith, length-map pieces run_total)), total-take_le ws (i + 1))

next : (c : goal.After-rows_in-sum) → c.loop-piece.sum + c.rows_in-sum.result ≡ total (take (c.loop-piece.piece-index + 1) (map run_total c.args.pieces.now))
next c =
    let pieces = c.args.pieces.now in
    let i = c.loop-piece.piece-index in
    let width = total_at pieces i c.piece-item.result (omega arith) ∙ ap run_total (sym c.piece-item.is ∙ sym c.as_slice.ensures) ∙ sym c.rows_in-sum.ensures in
    omega (arith, c.loop-piece.invariant.sum, width, total-take_more (map run_total pieces) i 0 (omega (arith, length-map pieces run_total)))

pub overflow_add-sum : goal.overflow_add-sum
overflow_add-sum c = omega (arith, c.requires, next c, total-take_le (map run_total c.args.pieces.now) (c.loop-piece.piece-index + 1))

pub loop-piece-preserved : goal.loop-piece-preserved
loop-piece-preserved c =
    let ws = map run_total c.args.pieces.now in
    let i = c.loop-piece.piece-index in
    let starts = c.loop-piece.starts.items in
    record {
      long = omega (arith, ap length c.in_ok-push.ensures.items, length-append starts (c.loop-piece.sum ∷ []), c.loop-piece.invariant.long);
      each = subst (λ (xs : List ℕ). (k : ℕ) → k < i + 1 → get_or xs k 0 ≡ total (take k ws)) (sym c.in_ok-push.ensures.items)
          (start_more ws starts i c.loop-piece.sum c.loop-piece.invariant.long c.loop-piece.invariant.each c.loop-piece.invariant.sum);
      sum = next c;
    }
