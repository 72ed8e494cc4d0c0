-- Chunks that have a row.
use Rattle.std.proofs.Common.{arith, refl, ap, ◌≡◌, ◌<◌, ℕ, false, not, cond, nat_eq, List, [], ◌∷◌, length}
use Rattle.std.proofs.lemmas.Bool.Decides.{nat_tests}
use Rattle.vx_column.specs.declared.column.Column.{Column}
use Rattle.vx_column.specs.Columns.{len_of}
use Rattle.vx_column.specs.Chunks.{filled}

pub filled_more : (x : Column) (xs : List Column) → 0 < len_of x → filled (x ∷ xs) ≡ x ∷ filled xs
filled_more x xs h = ap (λ b. cond (not b) (x ∷ filled xs) (filled xs)) (is_some (len_of x) h)
  where
    is_some : (n : ℕ) → 0 < n → nat_eq n 0 ≡ false
    is_some n h = grind (arith, nat_tests)

pub filled_past : (x : Column) (xs : List Column) → len_of x ≡ 0 → filled (x ∷ xs) ≡ filled xs
filled_past x xs h = ap (λ n. cond (not (nat_eq n 0)) (x ∷ filled xs) (filled xs)) h

pub filled_none : (xs : List Column) → length xs ≡ 0 → filled xs ≡ []
filled_none [] h = refl
filled_none (x ∷ xs) h = absurd (omega arith)
