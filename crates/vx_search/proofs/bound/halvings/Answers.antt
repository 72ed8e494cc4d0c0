use Rattle.std.proofs.Common.{arith, refl, sym, ap, ◌∙◌, ◌≡◌, ◌-◌}
use Rattle.vx_search.specs.Places.{power_from}
use Rattle.vx_search.proofs.Powers.{lt_two_pow, pow_more, power_here, power_next}
use Rattle.vx_search.proofs.bound.halvings.Goals as goal

pub loop-reach-init : goal.loop-reach-init
loop-reach-init c =
    let all : c.args.places - 0 ≡ c.args.places = omega arith in
    record { power = refl; same = ap (λ n. power_from n 0 c.args.places) all }

pub overflow_add-count : goal.overflow_add-count
overflow_add-count c = omega (arith, c.loop-reach.invariant.power, lt_two_pow c.loop-reach.count, c.loop-reach-test.true, c.ranges.places)

pub loop-reach-smaller : goal.loop-reach-smaller
loop-reach-smaller c =
    omega (arith, c.loop-reach.invariant.power, lt_two_pow c.loop-reach.count, c.loop-reach-test.true)

pub loop-reach-preserved : goal.loop-reach-preserved
loop-reach-preserved c =
    let n = c.loop-reach.count in
    record {
      power = omega (arith, c.loop-reach.invariant.power, pow_more n);
      same = sym (power_next n c.args.places (omega (arith, c.loop-reach.invariant.power, c.loop-reach-test.true))) ∙ c.loop-reach.invariant.same;
    }

pub returns : goal.returns
returns c =
    let n = c.loop-reach.count in
    sym (power_here (c.args.places - n) n c.args.places (omega (arith, c.loop-reach.invariant.power, c.loop-reach-test.false))) ∙ c.loop-reach.invariant.same
