use Rattle.std.proofs.Common.{arith}
use Rattle.vx_wire.proofs.FieldLemmas.{collected_none, collects}
use Rattle.vx_wire.proofs.field.last_numbers.Goals as goal

pub loop-rest-init : goal.loop-rest-init
loop-rest-init c = collected_none c.args.known c.args.bytes.now

pub loop-rest-preserved : goal.loop-rest-preserved
loop-rest-preserved c =
    rw c.keep.ensures (collects c.args.known c.args.bytes.now c.loop-rest.last c.loop-rest.rest.now c.in_ok-tag.after.now c.in_ok-tag.tag c.in_ok-tag.number c.requires c.loop-rest.invariant c.in_ok-tag.ensures.ok)

pub keep-requires : goal.keep-requires
keep-requires c = omega (arith, c.loop-rest.invariant.places, c.requires)
