-- Rules that are tried in order, each with a test that is true where it is broken.
use Rattle.std.specs.Prelude.{◌≡◌, List, [], ◌∷◌, Option, Some, None, Bool, cond}
use Rattle.vx_rows.specs.declared.error.Rule.{Rule}
use Rattle.vx_rows.specs.declared.error.ColumnError.{ColumnError}
use Rattle.vx_rows.specs.declared.error.ColumnError.TheVariants.{Malformed}

-- the first rule whose test is true
unfoldable pub first_broken : List (Rule × Bool) → Option Rule
first_broken [] = None
first_broken (rule ∷ rules) = cond rule.1 (Some rule.0) (first_broken rules)

-- a refusal names that rule, at no part
abbrev pub Refuses : Option Rule → ColumnError → Type 0
Refuses None e = ⊥
Refuses (Some rule) e = e ≡ Malformed [] rule
