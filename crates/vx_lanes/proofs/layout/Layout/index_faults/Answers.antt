use Rattle.std.proofs.Common.{◌≡◌, ℕ, ◌+◌, ◌-◌, ◌%◌, ◌<◌, ◌≤◌, inl, inr, arith, sym, ap, ◌∙◌}
use Rattle.std.proofs.lemmas.Bool.{cases_eq}
use Rattle.vx_lanes.specs.Layouts.{lane_start, entries}
use Rattle.vx_lanes.specs.Rules.{any_between, any_entry, over_range, off_lane, off_order, lane_index_range, lane_index_lane, lane_index_order}
use Rattle.vx_lanes.proofs.Firsts.{any_between_none, any_between_join, any_below_none, any_below_more, fall_tells, starts_up}
use Rattle.vx_lanes.proofs.layout.Layout.index_faults.Goals as goal

pub loop-entry-init : goal.loop-entry-init
loop-entry-init g c =
    let first : c.start_of-from.result ≡ lane_start c.args.self.now 0 = c.start_of-from.ensures.offset in
    record {
      from = first;
      past = omega (arith, first);
      range = sym (any_between_none (over_range c.args.self.now) (lane_start c.args.self.now 0));
      lane = sym (any_below_none (λ h. any_between (off_lane c.args.self.now (h % c.args.self.now.n_lanes)) (lane_start c.args.self.now h) (lane_start c.args.self.now (h + 1))));
      order = sym (any_below_none (λ h. any_between (off_order c.args.self.now (lane_start c.args.self.now h)) (lane_start c.args.self.now h) (lane_start c.args.self.now (h + 1))));
      rise = omega (arith, c.start_of-from.ensures.rise);
      most = elim (cases_eq 0 (entries c.args.self.now)) as (λ _. c.start_of-from.new.steps ≤ c.args.steps.now + entries c.args.self.now + (c.start_of-from.result - lane_start c.args.self.now 0)) [
        | inl none ↦ omega (arith, c.start_of-from.ensures.last none)
        | inr some ↦ let one : 1 ≤ entries c.args.self.now = omega (arith, some) in omega (arith, c.start_of-from.ensures.rise)
      ];
      monotone = omega (arith, c.start_of-from.ensures.monotone);
    }

pub entry_faults-faults-requires-clause-ordered : goal.entry_faults-faults-requires-clause-ordered
entry_faults-faults-requires-clause-ordered g c = omega (arith, c.loop-entry.invariant.from, c.start_of-to.ensures.offset, fall_tells c.args.self.now c.loop-entry.entry c.requires.rising (omega arith))

pub entry_faults-faults-requires-clause-inside : goal.entry_faults-faults-requires-clause-inside
entry_faults-faults-requires-clause-inside g c =
    let up : lane_start c.args.self.now (c.loop-entry.entry + 1) ≤ lane_start c.args.self.now (entries c.args.self.now) = starts_up c.args.self.now (c.loop-entry.entry + 1) c.requires.rising (omega arith) in
    omega (arith, up, c.start_of-to.ensures.offset, c.requires.end, c.requires.inside)

pub loop-entry-preserved : goal.loop-entry-preserved
loop-entry-preserved g c =
    let l = c.args.self.now in
    let k : ℕ = c.loop-entry.entry in
    let from : c.loop-entry.from ≡ lane_start l k = c.loop-entry.invariant.from in
    let to : c.start_of-to.result ≡ lane_start l (k + 1) = c.start_of-to.ensures.offset in
    let up : lane_start l k ≤ lane_start l (k + 1) = fall_tells l k c.requires.rising (omega arith) in
    let past : lane_start l 0 ≤ c.loop-entry.from = c.loop-entry.invariant.past in
    let cost : c.entry_faults-faults.new.steps ≡ c.start_of-to.new.steps + (c.start_of-to.result - c.loop-entry.from) = c.entry_faults-faults.ensures.cost in
    let here : k < entries l = omega arith in
    record {
      from = to;
      past = omega arith;
      range = cc (c.loop-entry.invariant.range, c.entry_faults-faults.ensures.range, any_between_join (over_range l) (lane_start l 0) (lane_start l k) (lane_start l (k + 1)) (omega arith) up);
      lane = cc (c.loop-entry.invariant.lane, c.entry_faults-faults.ensures.lane, any_below_more (λ h. any_between (off_lane l (h % l.n_lanes)) (lane_start l h) (lane_start l (h + 1))) k);
      order = cc (c.loop-entry.invariant.order, c.entry_faults-faults.ensures.order, any_below_more (λ h. any_between (off_order l (lane_start l h)) (lane_start l h) (lane_start l (h + 1))) k);
      rise = omega (arith, cost, c.start_of-to.ensures.rise, c.loop-entry.invariant.rise);
      most = elim (cases_eq (k + 1) (entries l)) as (λ _. c.entry_faults-faults.new.steps ≤ c.args.steps.now + entries l + (c.start_of-to.result - lane_start l 0)) [
        | inl last ↦ omega (arith, cost, c.start_of-to.ensures.last last, c.loop-entry.invariant.most)
        | inr more ↦ let two : k + 2 ≤ entries l = omega (arith, more) in omega (arith, cost, c.start_of-to.ensures.rise, c.loop-entry.invariant.rise)
      ];
      monotone = omega (arith, cost, c.start_of-to.ensures.monotone, c.loop-entry.invariant.monotone);
    }

pub returns-clause-range : goal.returns-clause-range
unfolding lane_index_range
returns-clause-range g c =
    let end : c.loop-entry.entry ≡ entries c.args.self.now = omega arith in
    c.loop-entry.invariant.range ∙ ap (λ n. any_between (over_range c.args.self.now) (lane_start c.args.self.now 0) (lane_start c.args.self.now n)) end

pub returns-clause-lane : goal.returns-clause-lane
unfolding lane_index_lane
returns-clause-lane g c =
    let end : c.loop-entry.entry ≡ entries c.args.self.now = omega arith in
    c.loop-entry.invariant.lane ∙ ap (any_entry c.args.self.now (λ h. off_lane c.args.self.now (h % c.args.self.now.n_lanes))) end

pub returns-clause-order : goal.returns-clause-order
unfolding lane_index_order
returns-clause-order g c =
    let end : c.loop-entry.entry ≡ entries c.args.self.now = omega arith in
    c.loop-entry.invariant.order ∙ ap (any_entry c.args.self.now (λ h. off_order c.args.self.now (lane_start c.args.self.now h))) end

pub returns-clause-rise : goal.returns-clause-rise
returns-clause-rise g c =
    let end : c.loop-entry.entry ≡ entries c.args.self.now = omega arith in
    omega (arith, c.loop-entry.invariant.most, c.loop-entry.invariant.from, ap (lane_start c.args.self.now) end, c.requires.end, c.requires.inside)
