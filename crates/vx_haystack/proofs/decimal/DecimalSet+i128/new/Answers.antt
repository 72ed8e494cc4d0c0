use Rattle.std.proofs.Common.{List, ◌≡◌, ◌∙◌, ap, refl, [], ◌∷◌, map}
use Rattle.vx_haystack.specs.Integers.{holds}
use Rattle.vx_haystack.specs.Keys.{of_key, row_decimal}
use Rattle.vx_haystack.proofs.Membership.{decimal_member}
use Rattle.vx_haystack.proofs.decimal.DecimalSet+i128.new.Goals as goal

map_same : {X : Type 0} (xs : List X) → map (λ x. x) xs ≡ xs
map_same [] = refl
map_same (x ∷ xs) = ap (λ ys. x ∷ ys) (map_same xs)

pub returns-clause-ok : goal.returns-clause-ok
returns-clause-ok c = λ row.
    ap (λ p. of_key p (row_decimal row)) ((λ i z. c.in_ok-numbers.ensures.values z i) ∙ ap holds (map_same c.in_ok-values.values ∙ c.in_ok-values.ensures.ok)) ∙ decimal_member c.args.rows.now c.requires row
