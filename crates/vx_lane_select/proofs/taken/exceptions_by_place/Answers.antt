use Rattle.std.proofs.Common.{◌≡◌, ℕ, ◌+◌, ◌<◌, ◌≤◌, arith, refl, sym, ap, ◌∙◌, Option, None}
use Rattle.std.specs.BTreeMap as tree
use Rattle.std.specs.Ordering.{nat_cmp, is_eq}
use Rattle.vx_lanes.specs.Layouts.{entries, exceptions, lane_start}
use Rattle.vx_lanes.proofs.Entries.{starts_rise}
use Rattle.vx_lane_select.proofs.Places.{below_first, below_last, no_entry}
use Rattle.vx_lane_select.proofs.taken.exceptions_by_place.Goals as goal

pub loop-lane-init : goal.loop-lane-init
loop-lane-init g c =
    let l = c.args.lanes.now in
    let start = c.lane_offset_at-from.ensures.offset in
    record {
      from = start;
      places = λ row h. no_entry (λ (q : ℕ). is_eq (nat_cmp (l.offset + row) q)) c.new-by_place.result.entries c.new-by_place.ensures.len ∙ sym (below_first l c.lane_offset_at-from.result row c.lane_count-count.ensures.layout h start);
      past = omega (arith, start);
      rise = omega (arith, c.lane_offset_at-from.ensures.cost);
      monotone = omega (arith, c.lane_offset_at-from.ensures.cost);
    }

pub returns-in_err-add_lane-clause-rise : goal.returns-in_err-add_lane-clause-rise
returns-in_err-add_lane-clause-rise g c =
    let l = c.args.lanes.now in
    let s = c.lane_count-count.ensures.layout in
    let up : lane_start l c.loop-lane.lane ≤ lane_start l (c.loop-lane.lane + 1) = s.rising c.loop-lane.lane (omega (arith, c.lane_count-count.ensures.count)) in
    let most : lane_start l (c.loop-lane.lane + 1) ≤ lane_start l (entries l) = starts_rise l (c.loop-lane.lane + 1) (entries l) s (omega (arith, c.lane_count-count.ensures.count)) (omega arith) in
    omega (arith, up, most, s.offsets, s.inside, c.add_lane.ensures.rise, c.loop-lane.invariant.rise, c.loop-lane.invariant.past, c.loop-lane.invariant.from, c.lane_offset_at-to.ensures.offset, c.lane_offset_at-to.ensures.cost, c.lane_count-count.ensures.count)

pub returns-clause-ok : goal.returns-clause-ok
returns-clause-ok g c =
    let l = c.args.lanes.now in
    let end : c.loop-lane.lane ≡ entries l = omega (arith, c.lane_count-count.ensures.count) in
    λ row h. c.loop-lane.invariant.places row h ∙ below_last l c.loop-lane.from row c.lane_count-count.ensures.layout h (c.loop-lane.invariant.from ∙ ap (lane_start l) end)
