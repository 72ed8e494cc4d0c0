use Rattle.std.proofs.Common.{◌≡◌, ℕ, ◌+◌, ◌*◌, ◌/◌, ◌≤◌, arith, refl, ap, ◌∙◌, length, get_or, None}
use Rattle.vx_lanes.specs.Layouts.{lane_start, laid, overlaid_below, covered}
use Rattle.vx_lanes.proofs.Entries.{entry_inside, index_low}
use Rattle.vx_lanes.proofs.Exceptions.{Belongs}
use Rattle.vx_lanes.proofs.Overlays.{laid_more, stands_at, place_fits, cost_more}
use Rattle.vx_lanes.proofs.lanes.Lanes.lay_entry.Goals as goal

pub loop-exception-init : goal.loop-exception-init
loop-exception-init g c =
    let l = c.args.self.now in
    let up : lane_start l c.args.entry ≤ lane_start l (c.args.entry + 1) = c.n_lanes.ensures.layout.rising c.args.entry c.requires.entry in
    record {
      len = refl;
      rows = λ bare e. e;
      past = omega arith;
      within = omega (arith, c.requires.from, c.requires.to, up);
      rise = omega arith;
      monotone = omega arith;
    }

pub index_at-requires : goal.index_at-requires
index_at-requires g c = entry_inside c.args.self.now c.args.entry c.loop-exception.exception c.n_lanes.ensures.layout c.requires.entry (omega (arith, c.requires.to))

pub overflow_add-place : goal.overflow_add-place
overflow_add-place g c =
    let l = c.args.self.now in
    let s = c.n_lanes.ensures.layout in
    let chunk : c.args.entry / c.n_lanes.result ≡ c.args.entry / l.n_lanes = ap (λ n. c.args.entry / n) c.n_lanes.ensures.value in
    omega (arith, place_fits l c.args.entry s c.requires.entry, index_low l c.args.entry c.loop-exception.exception s c.requires.entry (omega (arith, c.requires.from)) (omega (arith, c.requires.to)))

pub lay-requires-clause-value : goal.lay-requires-clause-value
lay-requires-clause-value g c =
    let s = c.n_lanes.ensures.layout in
    omega (arith, s.paired, entry_inside c.args.self.now c.args.entry c.loop-exception.exception s c.requires.entry (omega (arith, c.requires.to)))

pub loop-exception-preserved : goal.loop-exception-preserved
loop-exception-preserved g c =
    let l = c.args.self.now in
    let s = c.n_lanes.ensures.layout in
    let k : ℕ = c.loop-exception.exception in
    let b : Belongs l c.args.entry k = record { from = omega (arith, c.requires.from); below = omega (arith, c.requires.to) } in
    let place : c.args.entry / c.n_lanes.result * 1024 + c.index_at.result ≡ stands_at l c.args.entry k = cc in
    let cost : c.lay.new.steps + covered l k (length c.args.rows.now) ≤ c.index_at.new.steps + covered l (k + 1) (length c.args.rows.now) =
    cost_more l c.args.entry k (length c.args.rows.now) c.index_at.new.steps c.lay.new.steps s c.requires.rows c.requires.entry b c.lay.ensures.monotone (λ h. c.lay.ensures.inside (omega arith)) (λ h. c.lay.ensures.below (omega arith)) (λ h. c.lay.ensures.above (omega arith)) in
    record {
      len = c.lay.ensures.len ∙ c.loop-exception.invariant.len;
      rows = λ bare e. laid_more l c.args.entry k bare c.loop-exception.rows c.lay.new.rows s (omega (arith, c.loop-exception.invariant.len, c.requires.rows)) c.requires.entry b (c.loop-exception.invariant.rows bare e) c.lay.ensures.len
          (λ row h. c.lay.ensures.each row h ∙ ap (λ p. laid l k p row (get_or c.loop-exception.rows row None)) place);
      past = omega (arith, c.loop-exception.invariant.past);
      within = omega arith;
      rise = omega (arith, cost, c.loop-exception.invariant.rise, c.index_at.ensures.cost, c.loop-exception.invariant.past);
      monotone = omega (arith, c.lay.ensures.monotone, c.loop-exception.invariant.monotone, c.index_at.ensures.cost);
    }

pub returns-clause-rows : goal.returns-clause-rows
returns-clause-rows g c =
    let l = c.args.self.now in
    let end : c.loop-exception.exception ≡ c.args.to = omega (arith, c.loop-exception.invariant.within) in
    λ bare e. c.loop-exception.invariant.rows bare e ∙ ap (λ n. overlaid_below l n bare) end

pub returns-clause-rise : goal.returns-clause-rise
returns-clause-rise g c =
    let l = c.args.self.now in
    let end : c.loop-exception.exception ≡ c.args.to = omega (arith, c.loop-exception.invariant.within) in
    omega (arith, c.loop-exception.invariant.rise, end, ap (λ n. covered l n (length c.args.rows.now)) end)
