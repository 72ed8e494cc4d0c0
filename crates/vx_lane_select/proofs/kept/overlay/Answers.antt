use Rattle.std.proofs.Common.{◌≡◌, ◌+◌, ◌≤◌, arith, refl, ◌∙◌, ap, length}
use Rattle.vx_lanes.specs.Layouts.{lane_start, entries}
use Rattle.vx_lane_select.specs.Selected.{covered_at}
use Rattle.vx_lane_select.proofs.Under.{under_none, under_all}
use Rattle.vx_lane_select.proofs.Covered.{covered-le}
use Rattle.vx_lane_select.proofs.kept.overlay.Goals as goal

pub loop-lane-init : goal.loop-lane-init
loop-lane-init g c = record {
  from = c.lane_offset_at-from.ensures.offset;
  len = refl;
  under = under_none c.args.lanes.now c.lane_offset_at-from.result c.args.kept.now c.args.rows.now c.lane_count-count.ensures.layout c.requires.inside c.requires.len c.lane_offset_at-from.ensures.offset;
  past = omega (arith, c.lane_offset_at-from.ensures.offset);
  rise = omega (arith, c.lane_offset_at-from.ensures.cost);
  monotone = omega (arith, c.lane_offset_at-from.ensures.cost);
}

pub loop-lane-preserved : goal.loop-lane-preserved
loop-lane-preserved g c =
    let l = c.args.lanes.now in
    let s = c.lane_count-count.ensures.layout in
    let up : lane_start l c.loop-lane.lane ≤ lane_start l (c.loop-lane.lane + 1) = s.rising c.loop-lane.lane (omega (arith, c.lane_count-count.ensures.count)) in
    record {
      from = c.lane_offset_at-to.ensures.offset;
      len = c.lay_lane.ensures.len ∙ c.loop-lane.invariant.len;
      under = c.lay_lane.ensures.rows c.args.rows.now c.loop-lane.invariant.under;
      past = omega (arith, up, c.loop-lane.invariant.past, c.loop-lane.invariant.from, c.lane_offset_at-to.ensures.offset);
      rise = omega (arith, up, c.lay_lane.ensures.rise, c.loop-lane.invariant.rise, c.loop-lane.invariant.past, c.loop-lane.invariant.from, c.lane_offset_at-to.ensures.offset, c.lane_offset_at-to.ensures.cost);
      monotone = omega (arith, c.lay_lane.ensures.monotone, c.loop-lane.invariant.monotone, c.lane_offset_at-to.ensures.cost);
    }

pub returns-clause-rows : goal.returns-clause-rows
returns-clause-rows g c =
    let l = c.args.lanes.now in
    let end : c.loop-lane.lane ≡ entries l = omega (arith, c.lane_count-count.ensures.count) in
    under_all l c.loop-lane.from c.args.kept.now c.args.rows.now c.loop-lane.rows c.lane_count-count.ensures.layout c.requires.inside c.requires.len (c.loop-lane.invariant.from ∙ ap (lane_start l) end) c.loop-lane.invariant.under

pub returns-clause-rise : goal.returns-clause-rise
returns-clause-rise g c =
    let l = c.args.lanes.now in
    let s = c.lane_count-count.ensures.layout in
    let end : c.loop-lane.lane ≡ entries l = omega (arith, c.lane_count-count.ensures.count) in
    omega (arith, s.offsets, s.inside, c.loop-lane.invariant.from, ap (lane_start l) end, covered-le l c.loop-lane.from c.args.kept.now, c.requires.len)
