use Rattle.std.proofs.Common.{◌++◌, List, ℕ, ap, sym, arith}
use Rattle.vx_wire.proofs.VarintLemmas.{fits_in_ten, varint_is, writes_more}
use Rattle.vx_wire.proofs.varint.push_varint.Goals as goal

pub loop-rest-init : goal.loop-rest-init
loop-rest-init c = (9, fits_in_ten c.args.number (omega arith), ap (λ (x : List ℕ). c.args.out.now.items ++ x) (sym (varint_is c.args.number)))

pub loop-rest-preserved : goal.loop-rest-preserved
loop-rest-preserved c =
    let (more, fits, so_far) = c.loop-rest.invariant in
    rw c.in_ok-push.ensures.items (writes_more c.loop-rest.out.items _ more c.loop-rest.rest (omega arith) fits so_far)
