use Rattle.std.proofs.Common.{◌≡◌, ◌^◌, eqb, false}
use Rattle.vx_lanes.specs.Rules.{any_below}
use Rattle.vx_lanes.proofs.layout.Layout.breaks_lane_count.Given as goal

abbrev pub invariant-loop-exponent : goal.invariant-loop-exponent
invariant-loop-exponent l = any_below (λ c. eqb l.self.n_lanes (2 ^ c)) l.exponent ≡ false
