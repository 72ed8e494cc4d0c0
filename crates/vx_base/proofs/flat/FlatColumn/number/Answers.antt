use Rattle.std.proofs.Common.{arith, rules, subst, ap, ◌≡◌, ◌∙◌, pos, true, to_z, of_z, slice_index, refl}
use Rattle.std.proofs.lemmas.Int.{ints}
use mir.Syntax.{w128}
use Rattle.vx_rows.specs.Fits.{rows_fit}
use Rattle.vx_base.specs.Numbers.{magnitude, numbers_of}
use Rattle.vx_base.proofs.Numbers.{number_at, numbers_at}
use Rattle.vx_base.proofs.flat.FlatColumn.number.Goals as goal

pub overflow_cast-result : goal.overflow_cast-result
overflow_cast-result c =
    let fits : rows_fit c.args.self.now.dtype c.args.self.now.rows ≡ true = subst (λ w. rows_fit w.dtype w.rows ≡ true) c.self.view_is c.self.invariant.2 in
    let n = number_at c.args.self.now.dtype c.args.self.now.rows c.args.i fits c.requires.unsigned c.requires.inside in
    let below = n.fits in
    let is : c.in-Some.number ≡ pos n.number = cc in
    let same : to_z w128 (of_z w128 c.in-Some.number) ≡ pos n.number = omega (arith, ints) in
    rw same (search rules)

pub returns-in-Some : goal.returns-in-Some
returns-in-Some c =
    let fits : rows_fit c.args.self.now.dtype c.args.self.now.rows ≡ true = subst (λ w. rows_fit w.dtype w.rows ≡ true) c.self.view_is c.self.invariant.2 in
    let n = number_at c.args.self.now.dtype c.args.self.now.rows c.args.i fits c.requires.unsigned c.requires.inside in
    let below = n.fits in
    let is : c.in-Some.number ≡ pos n.number = cc in
    let same : to_z w128 (of_z w128 c.in-Some.number) ≡ pos n.number = omega (arith, ints) in
    let at : slice_index (numbers_of c.args.self.now.rows) c.args.i ≡ n.number = numbers_at c.args.self.now.rows c.args.i c.requires.inside ∙ ap magnitude n.is in
    rw (same, at) refl
