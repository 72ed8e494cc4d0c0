use Rattle.std.proofs.Common.{rules, ◌≡◌, ◌∙◌, ℤ, ap, sym, subst, Some, None, get_or, to_z, of_z}
use Rattle.std.specs.Int.{w128}
use Rattle.std.proofs.lemmas.Int.{to_z-of_z}
use Rattle.vx_rows.specs.declared.value.Value.{Bool as Truth, Int}
use Rattle.vx_rows.specs.Order.{row_cmp}
use Rattle.vx_scalars.specs.Operators.{op_holds}
use Rattle.vx_ops.proofs.Truths.{bit_of_null, bit_of_number}
use Rattle.vx_ops.proofs.bits.bit_at.Goals as goal

pub returns-in-Some-clause-bit : goal.returns-in-Some-clause-bit
returns-in-Some-clause-bit g c =
    let row = get_or c.args.rows.now.rows c.args.i None in
    let number = sym c.int_at.ensures.value ∙ c.in-Some.is in
    let own = to_z-of_z w128 c.in-Some.row (search rules) in
    let other = to_z-of_z w128 c.args.number c.ranges.number in
    let order = subst (λ (z : ℤ). c.order_of.result ≡ row_cmp (Some (Int c.in-Some.row)) (Some (Int z))) other
    (subst (λ (z : ℤ). c.order_of.result ≡ row_cmp (Some (Int z)) (Some (Int (to_z w128 (of_z w128 c.args.number))))) own c.order_of.ensures) in
    ap (λ b. Some (Truth b)) (c.holds.ensures ∙ ap (op_holds c.args.op) order) ∙ bit_of_number c.args.op row c.in-Some.row c.args.number number

pub returns-in-None-clause-bit : goal.returns-in-None-clause-bit
returns-in-None-clause-bit g c =
    let null = sym c.int_at.ensures.value ∙ c.in-None.is in
    bit_of_null c.args.op c.args.rows.now.dtype c.args.rows.now.rows c.args.i c.args.number c.requires.integers c.dtype.ensures.fits c.requires.inside null
