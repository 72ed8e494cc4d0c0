-- What is written by one call after the other.
use Rattle.std.proofs.Common.{◌≡◌, List, ◌++◌, ap, ◌∙◌, append_assoc}
use Rattle.json.specs.Token.{Token}

pub three_joined : (a b c d x y z : List Token) → b ≡ a ++ x → c ≡ b ++ y → d ≡ c ++ z
    → d ≡ a ++ (x ++ (y ++ z))
three_joined a b c d x y z first second third =
    third ∙ ap (λ ts. ts ++ z) (second ∙ ap (λ ts. ts ++ y) first)
    ∙ append_assoc (a ++ x) y z ∙ append_assoc a x (y ++ z)
