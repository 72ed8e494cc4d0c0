use Rattle.std.proofs.Common.{arith, ◌≡◌, ◌∙◌, ◌||◌, ap, false, get_or}
use Rattle.vx_masks.specs.Bits.{is_within}
use Rattle.vx_masks.proofs.bits.set_range.Goals as goal

pub returns-clause-each : goal.returns-clause-each
returns-clause-each c =
    let done : c.loop-i.i ≡ c.args.end = omega arith in
    λ k h. c.loop-i.invariant k h ∙ ap (λ i. get_or c.args.bits.now k false || is_within k (c.args.start, i)) done
