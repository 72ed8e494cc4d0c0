use Rattle.std.proofs.Common.{rules, arith, subst, sym, ◌≡◌, ◌∙◌, ◌+◌, ◌-◌, ◌*◌, ◌<◌, ◌≤◌, true, length, slice_index_or, refl}
use Rattle.std.specs.declared.cmp.Ordering.TheVariants.{Less}
use Rattle.std.specs.Ordering.{is_lt}
use Rattle.vx_search.specs.Answers.{standing}
use Rattle.vx_search.specs.Halving.{log_up, rounds, IsFirstFrom}
use Rattle.vx_search.proofs.Powers.{IsGallop, gallop_next, gallop_rounds, gallop_rise, map_ok}
use Rattle.std.proofs.Math.Nat.{mul-le-mul_right}
use Rattle.vx_search.proofs.Counts.{ascends_standing, less_upto, told_lt}
use Rattle.vx_search.proofs.gallop.gallop_from.Goals as goal

pub loop-stride-preserved : goal.loop-stride-preserved
loop-stride-preserved g c =
    let xs = g.S.IndexOrd.sequence c.args.seq.now in
    let v = c.args.needle.now in
    let os = standing g.S.IndexOrd.stands xs v in
    let limit = c.index_len-len.result - c.args.start in
    let stride = c.loop-stride.stride in
    let place = c.args.start + stride in
    let cost = g.S.IndexOrd.cmp_cost c.args.seq.now in
    let w = c.loop-stride.low - c.args.start in
    let inside : place < length xs = omega (arith, c.index_len-len.ensures) in
    let yes : is_lt (slice_index_or os place Less) ≡ true = told_lt g.S.IndexOrd.stands xs (g.S.IndexOrd.sequence c.loop-stride.seq) v place c.in_ok-index_lt.field-0 c.loop-stride.invariant.same inside c.in_ok-index_lt.ensures.ok ∙ c.if-not-branch.false in
    let moved : c.args.start + stride + 1 - c.args.start ≡ stride + 1 = omega arith in
    record {
      front = omega arith;
      gallop = subst (IsGallop limit c.next_stride-stride.result) (sym moved) (gallop_next limit stride w c.next_stride-stride.result c.loop-stride.invariant.gallop (omega arith) c.next_stride-stride.ensures.first c.next_stride-stride.ensures.twice);
      less = λ k a b. less_upto os (length xs) (ascends_standing g.S.IndexOrd.stands xs v c.requires.sorted) k place (omega arith) inside yes;
      same = search rules;
      same_cost = search rules;
      same_memory = search rules;
      monotone = omega arith;
      spent = subst (λ n. c.index_lt.new.steps ≤ c.args.steps.now + rounds n * cost) (sym moved)
          (omega (arith, c.loop-stride.invariant.spent, c.index_lt.ensures.rise, c.loop-stride.invariant.same_cost, mul-le-mul_right cost (gallop_rounds limit stride w c.loop-stride.invariant.gallop (omega arith))));
    }

pub returns-then-not-branch-clause-rise : goal.returns-then-not-branch-clause-rise
returns-then-not-branch-clause-rise g c =
    let os = standing g.S.IndexOrd.stands (g.S.IndexOrd.sequence c.index_lt.new.self) c.args.needle.now in
    let cost = g.S.IndexOrd.cmp_cost c.args.seq.now in
    let low = c.loop-stride.low in
    let stride = c.loop-stride.stride in
    map_ok c.first_not_less.result (IsFirstFrom os low (c.args.start + stride)) (λ i. c.first_not_less.new.steps ≤ c.args.steps.now + (2 * log_up (i - c.args.start + 1) + 1) * cost)
    (λ i f. gallop_rise (c.index_len-len.result - c.args.start) stride (low - c.args.start) (i - c.args.start) (c.args.start + stride - low) c.args.steps.now c.loop-stride.steps c.index_lt.new.steps c.first_not_less.new.steps cost (g.S.IndexOrd.cmp_cost c.index_lt.new.self)
    c.loop-stride.invariant.gallop (omega (arith, f.0, c.loop-stride.invariant.front)) (omega (arith, c.loop-stride.invariant.front)) (c.index_lt.ensures.same_cost ∙ c.loop-stride.invariant.same_cost)
    c.loop-stride.invariant.spent (omega (arith, c.index_lt.ensures.rise, c.loop-stride.invariant.same_cost)) c.first_not_less.ensures.rise)
    c.first_not_less.ensures.ok

pub returns-clause-rise : goal.returns-clause-rise
returns-clause-rise g c =
    let os = standing g.S.IndexOrd.stands (g.S.IndexOrd.sequence c.loop-stride.seq) c.args.needle.now in
    let cost = g.S.IndexOrd.cmp_cost c.args.seq.now in
    let low = c.loop-stride.low in
    let stride = c.loop-stride.stride in
    map_ok c.first_not_less-2.result (IsFirstFrom os low c.index_len-len.result) (λ i. c.first_not_less-2.new.steps ≤ c.args.steps.now + (2 * log_up (i - c.args.start + 1) + 1) * cost)
    (λ i f. gallop_rise (c.index_len-len.result - c.args.start) stride (low - c.args.start) (i - c.args.start) (c.index_len-len.result - low) c.args.steps.now c.loop-stride.steps c.loop-stride.steps c.first_not_less-2.new.steps cost (g.S.IndexOrd.cmp_cost c.loop-stride.seq)
    c.loop-stride.invariant.gallop (omega (arith, f.0, c.loop-stride.invariant.front)) (omega (arith, c.loop-stride.invariant.front, c.loop-stride.invariant.gallop.within)) c.loop-stride.invariant.same_cost
    c.loop-stride.invariant.spent (omega arith) c.first_not_less-2.ensures.rise)
    c.first_not_less-2.ensures.ok

pub returns-in_err-index_lt-clause-most : goal.returns-in_err-index_lt-clause-most
returns-in_err-index_lt-clause-most g c =
    let cost = g.S.IndexOrd.cmp_cost c.args.seq.now in
    let limit = c.index_len-len.result - c.args.start in
    let stride = c.loop-stride.stride in
    let w = c.loop-stride.low - c.args.start in
    let all : limit ≡ length (g.S.IndexOrd.sequence c.args.seq.now) - c.args.start = omega (arith, c.index_len-len.ensures) in
    subst (λ n. c.index_lt.new.steps ≤ c.args.steps.now + (2 * log_up (n + 1) + 1) * cost) all
    (gallop_rise limit stride w limit (stride - w) c.args.steps.now c.loop-stride.steps c.index_lt.new.steps c.index_lt.new.steps cost cost
    c.loop-stride.invariant.gallop (omega (arith, c.loop-stride.invariant.gallop.low, c.loop-stride.invariant.gallop.within)) refl refl
    c.loop-stride.invariant.spent (omega (arith, c.index_lt.ensures.rise, c.loop-stride.invariant.same_cost)) (omega arith))

pub returns-then-not-branch-clause-most : goal.returns-then-not-branch-clause-most
returns-then-not-branch-clause-most g c =
    let cost = g.S.IndexOrd.cmp_cost c.args.seq.now in
    let limit = c.index_len-len.result - c.args.start in
    let stride = c.loop-stride.stride in
    let w = c.loop-stride.low - c.args.start in
    let all : limit ≡ length (g.S.IndexOrd.sequence c.args.seq.now) - c.args.start = omega (arith, c.index_len-len.ensures) in
    subst (λ n. c.first_not_less.new.steps ≤ c.args.steps.now + (2 * log_up (n + 1) + 1) * cost) all
    (gallop_rise limit stride w limit (c.args.start + stride - c.loop-stride.low) c.args.steps.now c.loop-stride.steps c.index_lt.new.steps c.first_not_less.new.steps cost (g.S.IndexOrd.cmp_cost c.index_lt.new.self)
    c.loop-stride.invariant.gallop (omega (arith, c.loop-stride.invariant.gallop.low, c.loop-stride.invariant.gallop.within)) (omega (arith, c.loop-stride.invariant.front)) (c.index_lt.ensures.same_cost ∙ c.loop-stride.invariant.same_cost)
    c.loop-stride.invariant.spent (omega (arith, c.index_lt.ensures.rise, c.loop-stride.invariant.same_cost)) c.first_not_less.ensures.rise)

pub returns-clause-most : goal.returns-clause-most
returns-clause-most g c =
    let cost = g.S.IndexOrd.cmp_cost c.args.seq.now in
    let limit = c.index_len-len.result - c.args.start in
    let stride = c.loop-stride.stride in
    let w = c.loop-stride.low - c.args.start in
    let all : limit ≡ length (g.S.IndexOrd.sequence c.args.seq.now) - c.args.start = omega (arith, c.index_len-len.ensures) in
    subst (λ n. c.first_not_less-2.new.steps ≤ c.args.steps.now + (2 * log_up (n + 1) + 1) * cost) all
    (gallop_rise limit stride w limit (c.index_len-len.result - c.loop-stride.low) c.args.steps.now c.loop-stride.steps c.loop-stride.steps c.first_not_less-2.new.steps cost (g.S.IndexOrd.cmp_cost c.loop-stride.seq)
    c.loop-stride.invariant.gallop (omega (arith, c.loop-stride.invariant.gallop.low, c.loop-stride.invariant.gallop.within)) (omega (arith, c.loop-stride.invariant.front, c.loop-stride.invariant.gallop.within)) c.loop-stride.invariant.same_cost
    c.loop-stride.invariant.spent (omega arith) c.first_not_less-2.ensures.rise)
