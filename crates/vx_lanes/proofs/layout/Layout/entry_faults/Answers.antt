use Rattle.std.proofs.Common.{◌≡◌, ℕ, ◌+◌, ◌-◌, ◌<◌, ◌≤◌, ◌||◌, arith, ap, ◌∙◌, subst}
use Rattle.vx_lanes.specs.Layouts.{index_of}
use Rattle.vx_lanes.specs.Rules.{any_between, over_range, off_lane, off_order}
use Rattle.vx_lanes.proofs.Firsts.{or_between_none, or_between_more, order_same}
use Rattle.vx_lanes.proofs.layout.Layout.entry_faults.Goals as goal

pub loop-exception-init : goal.loop-exception-init
loop-exception-init g c = record {
  from = omega arith;
  range = or_between_none (over_range c.args.self.now) c.args.from c.args.before.range;
  lane = or_between_none (off_lane c.args.self.now c.args.lane) c.args.from c.args.before.lane;
  order = or_between_none (off_order c.args.self.now c.args.from) c.args.from c.args.before.order;
  last = λ h. absurd (omega arith);
  cost = omega arith;
}

pub loop-exception-preserved : goal.loop-exception-preserved
loop-exception-preserved g c = record {
  from = omega arith;
  range = cc (c.with-faults.ensures.range, c.loop-exception.invariant.range, c.index_at-index.ensures.index, or_between_more (over_range c.args.self.now) c.args.from c.loop-exception.exception c.args.before.range c.loop-exception.invariant.from);
  lane = cc (c.with-faults.ensures.lane, c.loop-exception.invariant.lane, c.index_at-index.ensures.index, or_between_more (off_lane c.args.self.now c.args.lane) c.args.from c.loop-exception.exception c.args.before.lane c.loop-exception.invariant.from);
  order = cc (
    c.with-faults.ensures.order,
    c.loop-exception.invariant.order,
    or_between_more (off_order c.args.self.now c.args.from) c.args.from c.loop-exception.exception c.args.before.order c.loop-exception.invariant.from,
    order_same c.args.from c.loop-exception.exception c.index_at-index.result c.loop-exception.faults.last (index_of c.args.self.now c.loop-exception.exception) (index_of c.args.self.now (c.loop-exception.exception - 1)) c.loop-exception.invariant.from c.loop-exception.invariant.last c.index_at-index.ensures.index,
  );
  last = λ h. c.with-faults.ensures.last ∙ c.index_at-index.ensures.index ∙ ap (index_of c.args.self.now) (omega arith);
  cost = omega arith;
}

pub returns-clause-range : goal.returns-clause-range
returns-clause-range g c =
    let end : c.loop-exception.exception ≡ c.args.to = omega arith in
    subst (λ (at : ℕ). c.loop-exception.faults.range ≡ (c.args.before.range || any_between (over_range c.args.self.now) c.args.from at)) end c.loop-exception.invariant.range

pub returns-clause-lane : goal.returns-clause-lane
returns-clause-lane g c =
    let end : c.loop-exception.exception ≡ c.args.to = omega arith in
    subst (λ (at : ℕ). c.loop-exception.faults.lane ≡ (c.args.before.lane || any_between (off_lane c.args.self.now c.args.lane) c.args.from at)) end c.loop-exception.invariant.lane

pub returns-clause-order : goal.returns-clause-order
returns-clause-order g c =
    let end : c.loop-exception.exception ≡ c.args.to = omega arith in
    subst (λ (at : ℕ). c.loop-exception.faults.order ≡ (c.args.before.order || any_between (off_order c.args.self.now c.args.from) c.args.from at)) end c.loop-exception.invariant.order
