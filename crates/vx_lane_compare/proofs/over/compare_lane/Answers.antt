use Rattle.std.proofs.Common.{◌≡◌, ℕ, ℤ, ◌+◌, ◌≤◌, arith, refl, subst, ap, ◌∙◌, List, Option, Bool, length, get_or, None, to_z, of_z}
use Rattle.std.specs.Int.{w128}
use Rattle.std.proofs.lemmas.Int.{to_z-of_z}
use Rattle.vx_lanes.specs.Layouts.{lane_start, covered}
use Rattle.vx_lanes.proofs.Entries.{entry_inside, index_low}
use Rattle.vx_lanes.proofs.Exceptions.{Belongs}
use Rattle.vx_lanes.proofs.Overlays.{cost_more, place_fits, stands_at}
use Rattle.vx_lane_compare.specs.Bits.{AreUnder, bit_laid}
use Rattle.vx_lane_compare.proofs.Under.{under_more}
use Rattle.vx_lane_compare.proofs.over.compare_lane.Goals as goal

pub loop-exception-init : goal.loop-exception-init
loop-exception-init g c =
    let l = c.args.lanes.now in
    let up : lane_start l c.args.lane ≤ lane_start l (c.args.lane + 1) = c.chunk_place-chunk.ensures.layout.rising c.args.lane c.requires.lane in
    record {
      len = refl;
      bits = λ bare u. u;
      past = omega arith;
      within = omega (arith, c.requires.start, c.requires.end, up);
      rise = omega arith;
      monotone = omega arith;
    }

pub index_at-requires : goal.index_at-requires
index_at-requires g c = entry_inside c.args.lanes.now c.args.lane c.loop-exception.exception c.chunk_place-chunk.ensures.layout c.requires.lane (omega (arith, c.requires.end))

pub overflow_add-place : goal.overflow_add-place
overflow_add-place g c =
    let l = c.args.lanes.now in
    let s = c.chunk_place-chunk.ensures.layout in
    omega (arith, c.chunk_place-chunk.ensures.place, c.index_at.ensures.index, place_fits l c.args.lane s c.requires.lane, index_low l c.args.lane c.loop-exception.exception s c.requires.lane (omega (arith, c.requires.start)) (omega (arith, c.requires.end)))

pub compare_at-requires-clause-exception : goal.compare_at-requires-clause-exception
compare_at-requires-clause-exception g c = entry_inside c.args.lanes.now c.args.lane c.loop-exception.exception c.chunk_place-chunk.ensures.layout c.requires.lane (omega (arith, c.requires.end))

pub loop-exception-preserved : goal.loop-exception-preserved
loop-exception-preserved g c =
    let l = c.args.lanes.now in
    let s = c.chunk_place-chunk.ensures.layout in
    let k : ℕ = c.loop-exception.exception in
    let v : ℤ = to_z w128 (of_z w128 c.args.value) in
    let b : Belongs l c.args.lane k = record { from = omega (arith, c.requires.start); below = omega (arith, c.requires.end) } in
    let place : c.chunk_place-chunk.result + c.index_at.result ≡ stands_at l c.args.lane k = omega (arith, c.chunk_place-chunk.ensures.place, c.index_at.ensures.index) in
    let cost : c.compare_at.new.steps + covered l k (length c.args.bits.now) ≤ c.index_at.new.steps + covered l (k + 1) (length c.args.bits.now) =
    cost_more l c.args.lane k (length c.args.bits.now) c.index_at.new.steps c.compare_at.new.steps s c.requires.len c.requires.lane b c.compare_at.ensures.monotone (λ h. c.compare_at.ensures.inside (omega (arith, place))) (λ h. c.compare_at.ensures.below (omega (arith, place))) (λ h. c.compare_at.ensures.above (omega (arith, place))) in
    record {
      len = c.compare_at.ensures.len ∙ c.loop-exception.invariant.len;
      bits = λ bare u. under_more l c.args.op v c.args.lane k bare c.loop-exception.bits c.compare_at.new.bits s (c.loop-exception.invariant.len ∙ c.requires.len) c.requires.lane b (c.loop-exception.invariant.bits bare u) c.compare_at.ensures.len
          (λ row h. c.compare_at.ensures.each row h ∙ ap (λ p. bit_laid l c.args.op v k p row (get_or c.loop-exception.bits row None)) place);
      past = omega (arith, c.loop-exception.invariant.past);
      within = omega arith;
      rise = omega (arith, cost, c.loop-exception.invariant.rise, c.index_at.ensures.cost, c.loop-exception.invariant.past);
      monotone = omega (arith, c.compare_at.ensures.monotone, c.loop-exception.invariant.monotone, c.index_at.ensures.cost);
    }

pub returns-clause-bits : goal.returns-clause-bits
returns-clause-bits g c =
    let end : c.loop-exception.exception ≡ c.args.range.end = omega (arith, c.loop-exception.invariant.within) in
    let bits : (bare : List (Option Bool)) → AreUnder c.args.lanes.now c.args.op c.args.value c.args.range.start bare c.args.bits.now → AreUnder c.args.lanes.now c.args.op c.args.value c.loop-exception.exception bare c.loop-exception.bits =
    subst (λ (v : ℤ). (bare : List (Option Bool)) → AreUnder c.args.lanes.now c.args.op v c.args.range.start bare c.args.bits.now → AreUnder c.args.lanes.now c.args.op v c.loop-exception.exception bare c.loop-exception.bits) (to_z-of_z w128 c.args.value c.ranges.value) c.loop-exception.invariant.bits in
    λ bare u. subst (λ (n : ℕ). AreUnder c.args.lanes.now c.args.op c.args.value n bare c.loop-exception.bits) end (bits bare u)

pub returns-clause-rise : goal.returns-clause-rise
returns-clause-rise g c =
    let end : c.loop-exception.exception ≡ c.args.range.end = omega (arith, c.loop-exception.invariant.within) in
    omega (arith, c.loop-exception.invariant.rise, end, ap (λ (n : ℕ). covered c.args.lanes.now n (length c.args.bits.now)) end)
