use Rattle.std.proofs.Common.{arith, rules, ◌≡◌, ◌∙◌, sym, pos, to_z, of_z}
use Rattle.std.proofs.lemmas.Int.{ints}
use mir.Syntax.{w128}
use Rattle.vx_patch_select.proofs.Asking.{number_of_row}
use Rattle.vx_patch_select.proofs.take.index_at.Goals as goal

pub overflow_cast-result : goal.overflow_cast-result
overflow_cast-result g c =
    let column = c.args.indices.now in
    let n = number_of_row column.dtype column.rows c.args.row c.in-Some.number c.dtype.ensures.fits c.requires.unsigned c.requires.inside (sym c.in-Some.is ∙ c.int_at.ensures.value) in
    let below = n.fits in
    let is : c.in-Some.number ≡ pos n.number = cc in
    let same : to_z w128 (of_z w128 c.in-Some.number) ≡ pos n.number = omega (arith, ints) in
    rw same (search rules)
