use Rattle.std.proofs.Common.{◌≡◌, ℤ, ◌+◌, ◌≤◌, arith, refl, sym, ◌∙◌, ap, subst, length, List, Option, Bool}
use Rattle.std.specs.Int.{w128}
use Rattle.std.proofs.lemmas.Int.{to_z-of_z}
use Rattle.vx_lanes.specs.Layouts.{lane_start, entries, covered}
use Rattle.vx_lanes.proofs.Overlays.{covered-le}
use Rattle.vx_lane_compare.specs.Bits.{AreUnder, as_rows}
use Rattle.vx_lane_compare.proofs.Means.{bits_mean}
use Rattle.vx_lane_compare.proofs.Under.{under_none, under_all}
use Rattle.vx_lane_compare.proofs.over.compare.Goals as goal

pub loop-lane-init : goal.loop-lane-init
loop-lane-init g c = record {
  from = c.lane_offset_at-from.ensures.offset;
  len = refl;
  under = subst (λ (v : ℤ). AreUnder c.args.lanes.now c.args.op v c.lane_offset_at-from.result c.args.bits.now c.args.bits.now) (sym (to_z-of_z w128 c.args.value c.ranges.value)) (under_none c.args.lanes.now c.args.op c.args.value c.lane_offset_at-from.result c.args.bits.now c.lane_count-count.ensures.layout c.requires c.lane_offset_at-from.ensures.offset);
  past = omega (arith, c.lane_offset_at-from.ensures.offset);
  rise = omega (arith, c.lane_offset_at-from.ensures.cost);
  monotone = omega (arith, c.lane_offset_at-from.ensures.cost);
}

pub loop-lane-preserved : goal.loop-lane-preserved
loop-lane-preserved g c =
    let l = c.args.lanes.now in
    let s = c.lane_count-count.ensures.layout in
    let up : lane_start l c.loop-lane.lane ≤ lane_start l (c.loop-lane.lane + 1) = s.rising c.loop-lane.lane (omega (arith, c.lane_count-count.ensures.count)) in
    let before = ap (covered l c.loop-lane.from) c.loop-lane.invariant.len in
    let after = ap (covered l c.lane_offset_at-to.result) c.loop-lane.invariant.len in
    record {
      from = c.lane_offset_at-to.ensures.offset;
      len = c.compare_lane.ensures.len ∙ c.loop-lane.invariant.len;
      under = c.compare_lane.ensures.bits c.args.bits.now c.loop-lane.invariant.under;
      past = omega (arith, up, c.loop-lane.invariant.past, c.loop-lane.invariant.from, c.lane_offset_at-to.ensures.offset);
      rise = omega (arith, up, before, after, c.compare_lane.ensures.rise, c.loop-lane.invariant.rise, c.loop-lane.invariant.past, c.loop-lane.invariant.from, c.lane_offset_at-to.ensures.offset, c.lane_offset_at-to.ensures.cost);
      monotone = omega (arith, c.compare_lane.ensures.monotone, c.loop-lane.invariant.monotone, c.lane_offset_at-to.ensures.cost);
    }

pub returns-clause-bits : goal.returns-clause-bits
returns-clause-bits g c =
    let l = c.args.lanes.now in
    let end : c.loop-lane.lane ≡ entries l = omega (arith, c.lane_count-count.ensures.count) in
    under_all l c.args.op c.args.value c.loop-lane.from c.args.bits.now c.loop-lane.bits c.lane_count-count.ensures.layout c.requires (c.loop-lane.invariant.from ∙ ap (lane_start l) end)
    (subst (λ (v : ℤ). AreUnder l c.args.op v c.loop-lane.from c.args.bits.now c.loop-lane.bits) (to_z-of_z w128 c.args.value c.ranges.value) c.loop-lane.invariant.under)

pub returns-clause-means : goal.returns-clause-means
returns-clause-means g c = λ rows e. ap (λ (bits : List (Option Bool)). as_rows bits) (returns-clause-bits g c) ∙ bits_mean c.args.lanes.now c.args.op c.args.value c.args.bits.now rows c.lane_count-count.ensures.layout c.requires e

pub returns-clause-rise : goal.returns-clause-rise
returns-clause-rise g c =
    let l = c.args.lanes.now in
    let s = c.lane_count-count.ensures.layout in
    let end : c.loop-lane.lane ≡ entries l = omega (arith, c.lane_count-count.ensures.count) in
    omega (arith, s.offsets, s.inside, c.loop-lane.invariant.from, ap (lane_start l) end, covered-le l c.loop-lane.from (length c.args.bits.now))
