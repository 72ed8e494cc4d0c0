-- Lists of what rows give, one row after the other.
use Rattle.std.proofs.Common.{ℕ, ◌≡◌, ◌∙◌, ◌<◌, ◌+◌, ap, sym, List, [], ◌∷◌, ◌++◌, length, take, get_or, append-nil}
use Rattle.std.specs.List.{flat_map}
use Rattle.std.proofs.lemmas.List.{take_more}
use Rattle.std.proofs.lemmas.List.Concat.{flat_map-append}

-- what the elements so far give, and what one more gives
pub given_more : {X A : Type 0} (f : X → List A) (xs : List X) (i : ℕ) (d : X) (before more now : List A) → i < length xs → before ≡ flat_map f (take i xs) → more ≡ f (get_or xs i d) → now ≡ before ++ more →
    now ≡ flat_map f (take (i + 1) xs)
given_more f xs i d before more now h so_far one next =
    next ∙ (λ j. so_far j ++ one j)
    ∙ ap (λ ys. flat_map f (take i xs) ++ ys) (sym (append-nil (f (get_or xs i d))))
    ∙ sym (flat_map-append f (take i xs) (get_or xs i d ∷ []))
    ∙ sym (ap (flat_map f) (take_more xs i d h))
