use Rattle.std.proofs.Common.{◌≡◌, ℕ, ◌+◌, ◌*◌, ◌/◌, ◌≤◌, arith, refl, subst, ap, ◌∙◌, List, Option, length, get_or, slice_index, None}
use Rattle.vx_rows.specs.declared.value.Value.{Value}
use Rattle.vx_lanes.specs.Layouts.{lane_start, laid}
use Rattle.vx_lanes.proofs.Entries.{entry_inside, index_low}
use Rattle.vx_lanes.proofs.Exceptions.{Belongs}
use Rattle.vx_lanes.proofs.Overlays.{stands_at, place_fits}
use Rattle.vx_lane_select.specs.Selected.{AreUnder, covered_at}
use Rattle.vx_lane_select.proofs.Under.{under_more}
use Rattle.vx_lane_select.proofs.Covered.{cost_more}
use Rattle.vx_lane_select.proofs.kept.lay_lane.Goals as goal

pub loop-exception-init : goal.loop-exception-init
loop-exception-init g c =
    let l = c.args.lanes.now in
    let up : lane_start l c.args.lane ≤ lane_start l (c.args.lane + 1) = c.chunk_place-chunk.ensures.layout.rising c.args.lane c.requires.lane in
    record {
      len = refl;
      rows = λ bare u. u;
      past = omega arith;
      within = omega (arith, c.requires.from, c.requires.to, up);
      rise = omega arith;
      monotone = omega arith;
    }

pub index_at-requires : goal.index_at-requires
index_at-requires g c = entry_inside c.args.lanes.now c.args.lane c.loop-exception.exception c.chunk_place-chunk.ensures.layout c.requires.lane (omega (arith, c.requires.to))

pub overflow_add-place : goal.overflow_add-place
overflow_add-place g c =
    let l = c.args.lanes.now in
    let s = c.chunk_place-chunk.ensures.layout in
    omega (arith, c.chunk_place-chunk.ensures.place, c.index_at.ensures.index, place_fits l c.args.lane s c.requires.lane, index_low l c.args.lane c.loop-exception.exception s c.requires.lane (omega (arith, c.requires.from)) (omega (arith, c.requires.to)))

pub lay-requires-clause-value : goal.lay-requires-clause-value
lay-requires-clause-value g c =
    let s = c.chunk_place-chunk.ensures.layout in
    omega (arith, s.paired, entry_inside c.args.lanes.now c.args.lane c.loop-exception.exception s c.requires.lane (omega (arith, c.requires.to)))

pub loop-exception-preserved : goal.loop-exception-preserved
loop-exception-preserved g c =
    let l = c.args.lanes.now in
    let kept : List ℕ = c.args.kept.now in
    let s = c.chunk_place-chunk.ensures.layout in
    let k : ℕ = c.loop-exception.exception in
    let b : Belongs l c.args.lane k = record { from = omega (arith, c.requires.from); below = omega (arith, c.requires.to) } in
    let place : c.chunk_place-chunk.result + c.index_at.result ≡ stands_at l c.args.lane k = omega (arith, c.chunk_place-chunk.ensures.place, c.index_at.ensures.index) in
    let cost : c.lay.new.steps + covered_at l k kept ≤ c.index_at.new.steps + covered_at l (k + 1) kept =
    cost_more l c.args.lane k c.index_at.new.steps c.lay.new.steps kept s c.requires.inside c.requires.lane b c.lay.ensures.monotone c.lay.ensures.some (λ never. c.lay.ensures.none (λ j h e. never j h (e ∙ place))) in
    record {
      len = c.lay.ensures.len ∙ c.loop-exception.invariant.len;
      rows = λ bare u. under_more l c.args.lane k kept bare c.loop-exception.rows c.lay.new.rows s c.requires.inside (omega (arith, c.loop-exception.invariant.len, c.requires.len)) c.requires.lane b (c.loop-exception.invariant.rows bare u) c.lay.ensures.len
          (λ j h. c.lay.ensures.each j h ∙ ap (λ p. laid l k p (slice_index kept j) (get_or c.loop-exception.rows j None)) place);
      past = omega (arith, c.loop-exception.invariant.past);
      within = omega arith;
      rise = omega (arith, cost, c.loop-exception.invariant.rise, c.index_at.ensures.cost, c.loop-exception.invariant.past);
      monotone = omega (arith, c.lay.ensures.monotone, c.loop-exception.invariant.monotone, c.index_at.ensures.cost);
    }

pub returns-clause-rows : goal.returns-clause-rows
returns-clause-rows g c =
    let end : c.loop-exception.exception ≡ c.args.to = omega (arith, c.loop-exception.invariant.within) in
    λ bare u. subst (λ n. AreUnder c.args.lanes.now n c.args.kept.now bare c.loop-exception.rows) end (c.loop-exception.invariant.rows bare u)

pub returns-clause-rise : goal.returns-clause-rise
returns-clause-rise g c =
    let end : c.loop-exception.exception ≡ c.args.to = omega (arith, c.loop-exception.invariant.within) in
    omega (arith, c.loop-exception.invariant.rise, end, ap (λ n. covered_at c.args.lanes.now n c.args.kept.now) end)
