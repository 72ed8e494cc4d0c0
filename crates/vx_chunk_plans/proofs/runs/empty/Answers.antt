use Rattle.std.proofs.Common.{ap, sym, ◌∙◌, List, ℕ, [], ◌∷◌, ◌++◌}
use Rattle.vx_chunk_plans.proofs.Cutting.{empty_more}
use Rattle.vx_chunk_plans.proofs.runs.empty.Goals as goal

pub loop-preserved : goal.loop-preserved
loop-preserved c =
    c.in_ok-push.ensures.items
    ∙ ap (λ (p : List (ℕ × ℕ)). c.loop.pieces.items ++ p ∷ []) c.new.ensures
    ∙ ap (λ (ps : List (List (ℕ × ℕ))). ps ++ [] ∷ []) c.loop.invariant
    ∙ sym (empty_more 0 c.loop.counter)
