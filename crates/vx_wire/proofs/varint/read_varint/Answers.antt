use Rattle.std.proofs.Common.{◌+◌, get_or, refl, inl, inr, arith}
use Rattle.std.proofs.Math.Facts.{Fits-of_lt}
use Rattle.vx_wire.proofs.VarintLemmas.{IsAllowed, number_fits, reads_last, too_long, rest_at}
use Rattle.vx_wire.proofs.varint.read_varint.Goals as goal
use Rattle.vx_wire.proofs.varint.read_varint.Goals.{else-i-eq-LAST_PLACE-via-then-i-eq-LAST_PLACE+else-byte-ge2, else-i-eq-LAST_PLACE-via-else-i-eq-LAST_PLACE}

pub returns-then-byte-ge2-clause-err : goal.returns-then-byte-ge2-clause-err
returns-then-byte-ge2-clause-err c =
    too_long c.args.bytes.now c.loop-i.i (get_or c.args.bytes.now c.loop-i.i 0) c.loop-i.number (omega arith) refl (omega arith) (omega arith) c.loop-i.invariant

pub overflow_add-number : goal.overflow_add-number
overflow_add-number c =
    let byte = get_or c.args.bytes.now c.loop-i.i 0 in
    let allowed : IsAllowed c.loop-i.i byte = elim c.else-i-eq-LAST_PLACE.branch [
      | else-i-eq-LAST_PLACE-via-then-i-eq-LAST_PLACE+else-byte-ge2 w ↦ inr (omega arith)
      | else-i-eq-LAST_PLACE-via-else-i-eq-LAST_PLACE w ↦ inl (omega (arith, c.loop-i.invariant.within))
    ] in
    let fits = number_fits c.args.bytes.now c.loop-i.i byte c.loop-i.number (omega arith) refl allowed c.loop-i.invariant in
    rw c.from.ensures (Fits-of_lt fits)

pub returns-then-byte-lt128-clause-ok : goal.returns-then-byte-lt128-clause-ok
returns-then-byte-lt128-clause-ok c =
    let byte = get_or c.args.bytes.now c.loop-i.i 0 in
    let allowed : IsAllowed c.loop-i.i byte = elim c.else-i-eq-LAST_PLACE.branch [
      | else-i-eq-LAST_PLACE-via-then-i-eq-LAST_PLACE+else-byte-ge2 w ↦ inr (omega arith)
      | else-i-eq-LAST_PLACE-via-else-i-eq-LAST_PLACE w ↦ inl (omega (arith, c.loop-i.invariant.within))
    ] in
    let found = reads_last c.args.bytes.now c.loop-i.i byte c.loop-i.number (omega arith) refl allowed (omega arith) c.loop-i.invariant in
    rw (rest_at c.args.bytes.now (c.loop-i.i + 1) (omega arith), c.from.ensures) found
