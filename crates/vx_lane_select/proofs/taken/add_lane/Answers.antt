use Rattle.std.proofs.Common.{◌≡◌, ℕ, ◌+◌, ◌*◌, ◌/◌, ◌≤◌, arith, refl, sym, ap, ◌∙◌, Option, Some}
use Rattle.std.specs.BTreeMap as tree
use Rattle.std.specs.Ordering.{nat_cmp}
use Rattle.vx_lanes.specs.Layouts.{exception_below, lane_start}
use Rattle.vx_lanes.proofs.Entries.{entry_inside, index_low}
use Rattle.vx_lanes.proofs.Exceptions.{Belongs}
use Rattle.vx_lanes.proofs.Overlays.{stands_at, place_fits}
use Rattle.vx_lane_select.proofs.Places.{not_at, places_more}
use Rattle.vx_lane_select.proofs.taken.add_lane.Goals as goal

pub index_at-requires : goal.index_at-requires
index_at-requires g c = entry_inside c.args.lanes.now c.args.lane c.loop-exception.exception c.chunk_place-chunk.ensures.layout c.requires.lane (omega (arith, c.requires.to))

pub overflow_add-place : goal.overflow_add-place
overflow_add-place g c =
    let l = c.args.lanes.now in
    let s = c.chunk_place-chunk.ensures.layout in
    omega (arith, c.chunk_place-chunk.ensures.place, c.index_at.ensures.index, place_fits l c.args.lane s c.requires.lane, index_low l c.args.lane c.loop-exception.exception s c.requires.lane (omega (arith, c.requires.from)) (omega (arith, c.requires.to)))

pub loop-exception-preserved : goal.loop-exception-preserved
loop-exception-preserved g c =
    let l = c.args.lanes.now in
    let s = c.chunk_place-chunk.ensures.layout in
    let k : ℕ = c.loop-exception.exception in
    let b : Belongs l c.args.lane k = record { from = omega (arith, c.requires.from); below = omega (arith, c.requires.to) } in
    let at : ℕ = c.chunk_place-chunk.result + c.index_at.result in
    let place : at ≡ stands_at l c.args.lane k = omega (arith, c.chunk_place-chunk.ensures.place, c.index_at.ensures.index) in
    let now : ℕ → Option ℕ = λ (q : ℕ). tree.get nat_cmp c.insert.new.self q in
    let here : now (stands_at l c.args.lane k) ≡ Some k = ap now (sym place) ∙ c.in_ok-insert.ensures.updates.1 in
    record {
      places = λ before. places_more l c.args.lane k (λ (q : ℕ). tree.get nat_cmp c.loop-exception.by_place q) now s c.requires.lane b here
          (λ q apart. c.in_ok-insert.ensures.updates.2 q (not_at at q (λ e. apart (e ∙ place)))) (c.loop-exception.invariant.places before);
      past = omega (arith, c.loop-exception.invariant.past);
      within = omega arith;
      rise = omega (arith, c.loop-exception.invariant.rise, c.index_at.ensures.cost, c.loop-exception.invariant.past);
      monotone = omega (arith, c.loop-exception.invariant.monotone, c.index_at.ensures.cost);
    }
