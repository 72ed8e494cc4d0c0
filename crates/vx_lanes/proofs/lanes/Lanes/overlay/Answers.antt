use Rattle.std.proofs.Common.{◌≡◌, ◌+◌, ◌-◌, ◌≤◌, arith, refl, ap, ◌∙◌, List, Option, None, length, get_or}
use Rattle.vx_rows.specs.declared.value.Value.{Value}
use Rattle.vx_lanes.specs.Layouts.{entries, lane_start, covered}
use Rattle.vx_lanes.proofs.Overlays.{laid_before, laid_all, covered-le}
use Rattle.vx_lanes.proofs.Pairs.{overlaid_means}
use Rattle.vx_lanes.proofs.lanes.Lanes.overlay.Goals as goal

pub loop-entry-init : goal.loop-entry-init
loop-entry-init g c = record {
  from = c.lane_offset_at-from.ensures.offset;
  len = refl;
  rows = laid_before c.args.self.now c.lane_offset_at-from.result c.args.rows.now c.entry_count-count.ensures.layout c.requires c.lane_offset_at-from.ensures.offset;
  past = omega (arith, c.lane_offset_at-from.ensures.offset);
  rise = omega arith;
  monotone = omega arith;
}

pub loop-entry-preserved : goal.loop-entry-preserved
loop-entry-preserved g c =
    let l = c.args.self.now in
    let s = c.entry_count-count.ensures.layout in
    let up : lane_start l c.loop-entry.entry ≤ lane_start l (c.loop-entry.entry + 1) = s.rising c.loop-entry.entry (omega (arith, c.entry_count-count.ensures.count)) in
    let before = ap (covered l c.loop-entry.from) c.loop-entry.invariant.len in
    let after = ap (covered l c.lane_offset_at-to.result) c.loop-entry.invariant.len in
    record {
      from = c.lane_offset_at-to.ensures.offset;
      len = c.lay_entry.ensures.len ∙ c.loop-entry.invariant.len;
      rows = c.lay_entry.ensures.rows c.args.rows.now c.loop-entry.invariant.rows;
      past = omega (arith, up, c.loop-entry.invariant.past, c.loop-entry.invariant.from, c.lane_offset_at-to.ensures.offset);
      rise = omega (arith, up, before, after, c.lay_entry.ensures.rise, c.loop-entry.invariant.rise, c.loop-entry.invariant.past, c.loop-entry.invariant.from, c.lane_offset_at-to.ensures.offset, c.lane_offset_at-to.ensures.cost);
      monotone = omega (arith, c.lay_entry.ensures.monotone, c.loop-entry.invariant.monotone, c.lane_offset_at-to.ensures.cost);
    }

pub returns-clause-rows : goal.returns-clause-rows
returns-clause-rows g c =
    let l = c.args.self.now in
    let end : c.loop-entry.entry ≡ entries l = omega (arith, c.entry_count-count.ensures.count) in
    laid_all l c.loop-entry.from c.args.rows.now c.loop-entry.rows c.entry_count-count.ensures.layout c.requires (c.loop-entry.invariant.from ∙ ap (lane_start l) end) c.loop-entry.invariant.rows

pub returns-clause-means : goal.returns-clause-means
returns-clause-means g c = λ row h. ap (λ (rs : List (Option Value)). get_or rs row None) (returns-clause-rows g c) ∙ overlaid_means c.args.self.now c.args.rows.now row c.entry_count-count.ensures.layout (omega (arith, c.requires))

pub returns-clause-rise : goal.returns-clause-rise
returns-clause-rise g c =
    let l = c.args.self.now in
    let s = c.entry_count-count.ensures.layout in
    let end : c.loop-entry.entry ≡ entries l = omega (arith, c.entry_count-count.ensures.count) in
    omega (arith, s.offsets, s.inside, c.loop-entry.invariant.from, ap (lane_start l) end, covered-le l c.loop-entry.from (length c.args.rows.now))
