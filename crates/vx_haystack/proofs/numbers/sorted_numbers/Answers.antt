use Rattle.std.proofs.Common.{◌∙◌}
use Rattle.std.specs.Ordering.{int_eq}
use Rattle.vx_haystack.proofs.Density.{holds_is, alike_numbers}
use Rattle.vx_haystack.proofs.numbers.sorted_numbers.Goals as goal

pub returns-clause-values : goal.returns-clause-values
returns-clause-values g c = λ z.
    c.new.ensures (λ y. int_eq (g.T.SetInteger.number y) z) (λ a b e. alike_numbers _ _ _ z (g.met.T.SetInteger.ordered a b) e)
    ∙ rw c.into_vec.ensures (holds_is g.T.SetInteger.number c.args.values z)
