use Rattle.std.proofs.Common.{◌^◌, eqb, false, sym, arith, ap, not}
use Rattle.std.proofs.lemmas.Bool.Decides.{nat_tests}
use Rattle.std.proofs.lemmas.Nat.{one_shl}
use Rattle.vx_lanes.specs.Rules.{lane_count}
use Rattle.vx_lanes.proofs.Firsts.{any_below_none, any_below_push, any_below_some}
use Rattle.vx_lanes.proofs.layout.Layout.breaks_lane_count.Goals as goal

pub loop-exponent-init : goal.loop-exponent-init
loop-exponent-init c = any_below_none (λ c'. eqb c.args.self.now.n_lanes (2 ^ c'))

pub loop-exponent-preserved : goal.loop-exponent-preserved
loop-exponent-preserved c = any_below_push (λ c'. eqb c.args.self.now.n_lanes (2 ^ c')) c.loop-exponent.exponent false false c.loop-exponent.invariant (grind (arith, nat_tests, one_shl c.loop-exponent.exponent 64 (omega arith), c.if-self-exponent.false))

pub returns-then-self-exponent : goal.returns-then-self-exponent
unfolding lane_count
returns-then-self-exponent c = sym (ap not (any_below_some (λ c'. eqb c.args.self.now.n_lanes (2 ^ c')) 8 c.loop-exponent.exponent (omega arith) (grind (arith, nat_tests, one_shl c.loop-exponent.exponent 64 (omega arith), c.if-self-exponent.true))))
