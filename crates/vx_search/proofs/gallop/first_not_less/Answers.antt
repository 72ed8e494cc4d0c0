use Rattle.std.proofs.Common.{rules, arith, ◌≡◌, ◌∙◌, ◌+◌, ◌-◌, ◌/◌, true, false, length, slice_index_or}
use Rattle.std.specs.declared.cmp.Ordering.TheVariants.{Less}
use Rattle.std.specs.Ordering.{is_lt}
use Rattle.vx_search.specs.Answers.{standing}
use Rattle.vx_search.proofs.Powers.{spent_more}
use Rattle.vx_search.proofs.Counts.{ascends_standing, less_upto, told_lt}
use Rattle.vx_search.proofs.gallop.first_not_less.Goals as goal

pub returns-in_err-index_lt-clause-rise : goal.returns-in_err-index_lt-clause-rise
returns-in_err-index_lt-clause-rise g c =
    let size = c.loop-first.end - c.loop-first.first + 1 in
    omega (
      arith,
      spent_more c.loop-first.steps c.index_lt.new.steps c.args.steps.now (g.S.IndexOrd.cmp_cost c.args.seq.now) size 1 (c.args.high - c.args.low + 1)
          (omega arith) (omega arith) c.loop-first.invariant.spent (omega (arith, c.index_lt.ensures.rise, c.loop-first.invariant.same_cost)),
    )

pub loop-first-preserved-then-branch : goal.loop-first-preserved-then-branch
loop-first-preserved-then-branch g c =
    let xs = g.S.IndexOrd.sequence c.args.seq.now in
    let v = c.args.needle.now in
    let os = standing g.S.IndexOrd.stands xs v in
    let middle = c.loop-first.first + (c.loop-first.end - c.loop-first.first) / 2 in
    let size = c.loop-first.end - c.loop-first.first + 1 in
    let yes : is_lt (slice_index_or os middle Less) ≡ true = told_lt g.S.IndexOrd.stands xs (g.S.IndexOrd.sequence c.loop-first.seq) v middle c.in_ok-index_lt.field-0 c.loop-first.invariant.same (omega arith) c.in_ok-index_lt.ensures.ok ∙ c.if-branch.true in
    record {
      front = omega arith;
      some = omega arith;
      back = omega arith;
      less = λ k a b. less_upto os (length xs) (ascends_standing g.S.IndexOrd.stands xs v c.requires.sorted) k middle (omega arith) (omega arith) yes;
      more = c.loop-first.invariant.more;
      same = search rules;
      same_cost = search rules;
      same_memory = search rules;
      monotone = omega arith;
      spent = spent_more c.loop-first.steps c.index_lt.new.steps c.args.steps.now (g.S.IndexOrd.cmp_cost c.args.seq.now) size (c.loop-first.end - (middle + 1) + 1) (c.args.high - c.args.low + 1)
          (omega arith) (omega arith) c.loop-first.invariant.spent (omega (arith, c.index_lt.ensures.rise, c.loop-first.invariant.same_cost));
    }

pub loop-first-preserved : goal.loop-first-preserved
loop-first-preserved g c =
    let xs = g.S.IndexOrd.sequence c.args.seq.now in
    let v = c.args.needle.now in
    let os = standing g.S.IndexOrd.stands xs v in
    let middle = c.loop-first.first + (c.loop-first.end - c.loop-first.first) / 2 in
    let size = c.loop-first.end - c.loop-first.first + 1 in
    let no : is_lt (slice_index_or os middle Less) ≡ false = told_lt g.S.IndexOrd.stands xs (g.S.IndexOrd.sequence c.loop-first.seq) v middle c.in_ok-index_lt.field-0 c.loop-first.invariant.same (omega arith) c.in_ok-index_lt.ensures.ok ∙ c.if-branch.false in
    record {
      front = omega arith;
      some = omega arith;
      back = omega arith;
      less = c.loop-first.invariant.less;
      more = λ _. no;
      same = search rules;
      same_cost = search rules;
      same_memory = search rules;
      monotone = omega arith;
      spent = spent_more c.loop-first.steps c.index_lt.new.steps c.args.steps.now (g.S.IndexOrd.cmp_cost c.args.seq.now) size (middle - c.loop-first.first + 1) (c.args.high - c.args.low + 1)
          (omega arith) (omega arith) c.loop-first.invariant.spent (omega (arith, c.index_lt.ensures.rise, c.loop-first.invariant.same_cost));
    }
