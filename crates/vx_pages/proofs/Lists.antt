-- Lists that are written item by item.
use Rattle.std.proofs.Common.{◌≡◌, ℕ, ◌+◌, ◌<◌, ◌≤◌, List, [], ◌∷◌, ◌++◌, length, get_or, drop, map, ap, sym, ◌∙◌}
use Rattle.std.proofs.Common.{append_assoc}
use Rattle.std.proofs.lemmas.List.{drop_more, drop_all}
use Rattle.json.specs.Token.{Token, begin_array, end_array}
use Rattle.serde_json.specs.Data.{Data, array}
use Rattle.serde_json.specs.View.{items_of}
use Rattle.vx_pages.specs.Tokens.{tokens_of, tokens_to_end}

-- what is still to be written
abbrev pub tokens_left : {A : Type 0} (f : A → Data) (xs : List A) → List Token
tokens_left f xs = tokens_to_end (items_of (map f xs))

-- after one more item
pub one_more : {A : Type 0} (f : A → Data) (xs : List A) (i : ℕ) (x : A) (old new start : List Token)
    → i < length xs → x ≡ get_or xs i x → new ≡ old ++ tokens_of (f x)
    → old ++ tokens_left f (drop i xs) ≡ start
    → new ++ tokens_left f (drop (i + 1) xs) ≡ start
one_more f xs i x old new start inside here written left =
    let next : drop i xs ≡ x ∷ drop (i + 1) xs = drop_more xs i x inside ∙ ap (λ y. y ∷ drop (i + 1) xs) (sym here) in
    ap (λ ts. ts ++ tokens_left f (drop (i + 1) xs)) written
    ∙ append_assoc old (tokens_of (f x)) (tokens_left f (drop (i + 1) xs))
    ∙ ap (λ ys. old ++ tokens_left f ys) (sym next) ∙ left

-- after the last
pub all_written : {A : Type 0} (f : A → Data) (xs : List A) (i : ℕ) (old new start : List Token)
    → length xs ≤ i → new ≡ old ++ end_array ∷ [] → old ++ tokens_left f (drop i xs) ≡ start
    → new ≡ start
all_written f xs i old new start past closed left =
    closed ∙ ap (λ ys. old ++ tokens_left f ys) (sym (drop_all i xs past)) ∙ left

-- with the opening bracket
pub opened : {A : Type 0} (f : A → Data) (xs : List A) (old begun : List Token)
    → begun ≡ old ++ begin_array ∷ []
    → begun ++ tokens_left f xs ≡ old ++ tokens_of (array (items_of (map f xs)))
opened f xs old begun e =
    ap (λ ts. ts ++ tokens_left f xs) e ∙ append_assoc old (begin_array ∷ []) (tokens_left f xs)
