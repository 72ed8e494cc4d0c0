use Rattle.std.proofs.Common.{◌≡◌, ℕ, ℤ, ◌-◌, arith, ap, ◌∙◌, get_or, None, Some}
use Rattle.std.specs.Int.{w128}
use Rattle.std.proofs.lemmas.Int.{to_z-of_z}
use Rattle.vx_lanes.specs.Layouts.{value_of}
use Rattle.vx_lane_compare.specs.Bits.{bit_under}
use Rattle.vx_lane_compare.proofs.Under.{bit_set, laid_out}
use Rattle.vx_lane_compare.proofs.over.compare_at.Goals as goal

pub returns-then-place-offset-clause-each : goal.returns-then-place-offset-clause-each
returns-then-place-offset-clause-each g c = λ row h. laid_out c.args.lanes.now c.args.op c.args.value c.args.exception c.args.place row (get_or c.args.bits.now row None) (λ e. omega arith)

pub returns-then-row-bits-clause-each : goal.returns-then-row-bits-clause-each
returns-then-row-bits-clause-each g c = λ row h. laid_out c.args.lanes.now c.args.op c.args.value c.args.exception c.args.place row (get_or c.args.bits.now row None) (λ e. omega arith)

pub returns-clause-each : goal.returns-clause-each
returns-clause-each g c =
    let l = c.args.lanes.now in
    let at : ℕ = c.args.place - c.offset-offset.result in
    let written : c.compare_bit.new.bit ≡ bit_under c.args.op c.args.value (get_or c.args.bits.now at None) (Some (value_of l c.args.exception)) =
    c.compare_bit.ensures.bit ∙ ap (λ (v : ℤ). bit_under c.args.op v (get_or c.args.bits.now at None) (Some (value_of l c.args.exception))) (to_z-of_z w128 c.args.value c.ranges.value) in
    λ row h. bit_set l c.args.op c.args.value c.args.exception c.args.place at c.args.bits.now c.compare_bit.new.bit written (omega arith) (omega arith) row
