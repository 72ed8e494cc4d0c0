-- Pieces laid end to end, and one more at the end.
use Rattle.std.proofs.Common.{arith, refl, sym, ◌∙◌, ap, ◌≡◌, ◌<◌, ◌≤◌, ◌+◌, ℕ, zero, suc, List, [], ◌∷◌, ◌++◌, map, length, append_assoc}
use Rattle.std.proofs.lemmas.List.{append-nil}
use Rattle.vx_chunks.specs.Bounds.{total}
use Rattle.vx_chunk_plans.specs.Laid.{laid_from}

-- places of a chunk that starts at a row, as rows
abbrev pub shifted : ℕ → List ℕ → List ℕ
shifted at places = map (λ place. at + place) places

pub laid_push : {P : Type 0} (places : ℕ → P → List ℕ) (at : ℕ) (lens : List ℕ) (pieces : List P) (n : ℕ) (p : P) → length pieces ≡ length lens →
    laid_from places at (lens ++ n ∷ []) (pieces ++ p ∷ []) ≡ laid_from places at lens pieces ++ shifted (at + total lens) (places n p)
laid_push places at [] [] n p e = append-nil (shifted at (places n p)) ∙ ap (λ b. shifted b (places n p)) (let z : at ≡ at + 0 = omega arith in z)
laid_push places at [] (q ∷ pieces) n p e = absurd (omega arith)
laid_push places at (m ∷ lens) [] n p e = absurd (omega arith)
laid_push places at (m ∷ lens) (q ∷ pieces) n p e =
    let sum : at + m + total lens ≡ at + (m + total lens) = omega arith in
    ap (λ r. shifted at (places m q) ++ r) (laid_push places (at + m) lens pieces n p (omega arith))
    ∙ sym (append_assoc (shifted at (places m q)) (laid_from places (at + m) lens pieces) (shifted (at + m + total lens) (places n p)))
    ∙ ap (λ b. (shifted at (places m q) ++ laid_from places (at + m) lens pieces) ++ shifted b (places n p)) sum
