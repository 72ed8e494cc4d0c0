use Rattle.std.proofs.Common.{rules, arith, subst, sym, ◌≡◌, ◌∙◌, ◌≢◌, ℕ, ◌+◌, ◌-◌, ◌/◌}
use Rattle.std.specs.declared.cmp.Ordering.TheVariants.{Greater}
use Rattle.vx_search.specs.Answers.{standing}
use Rattle.vx_search.specs.Halving.{asked_at, IsWhere}
use Rattle.vx_search.proofs.Powers.{spent_more}
use Rattle.vx_search.proofs.Halvings.{IsHalved, halved_up, halved_down, found_here, behind_it, before_it, passed, failed}
use Rattle.vx_search.proofs.Counts.{told_asked}
use Rattle.vx_search.proofs.search.halve.Goals as goal
use Rattle.vx_search.proofs.search.halve.Goals.{then-ne, else-ne, in-Equal, in-Less, in-Greater}

pub loop-size-preserved : goal.loop-size-preserved
loop-size-preserved g c =
    let f = asked_at c.args.question (standing g.S.IndexOrd.stands (g.S.IndexOrd.sequence c.args.seq.now) c.args.value.now) in
    let size = c.loop-size.size in
    let half = size / 2 in
    let P : ℕ → Type 0 = λ b. IsHalved f c.args.from c.args.to b (size - half) in
    let at : c.in_ok-ask.field-0 ≡ f (c.loop-size.base + half) = told_asked c.args.question g.S.IndexOrd.stands (g.S.IndexOrd.sequence c.args.seq.now) (g.S.IndexOrd.sequence c.loop-size.seq) c.args.value.now (c.loop-size.base + half) c.in_ok-ask.field-0 c.loop-size.invariant.same c.in_ok-ask.ensures.ok in
    record {
      halved = elim c.if-ne.branch [
        | then-ne w ↦ subst P (sym w.base-is) (halved_up f c.args.from c.args.to c.loop-size.base size half c.loop-size.invariant.halved (omega arith) (omega arith) (subst (λ o. o ≢ Greater) at (passed c.in_ok-ask.field-0 c.ne.result c.ne.ensures w.if-ne.true)))
        | else-ne w ↦ subst P (sym w.base-is) (halved_down f c.args.from c.args.to c.loop-size.base size half c.requires.ascends c.loop-size.invariant.halved (omega arith) (omega arith) (sym at ∙ failed c.in_ok-ask.field-0 c.ne.result c.ne.ensures w.if-ne.false))
      ];
      same = search rules;
      same_cost = search rules;
      same_memory = search rules;
      monotone = omega arith;
      spent = spent_more c.loop-size.steps c.ask.new.steps c.args.steps.now (g.S.IndexOrd.cmp_cost c.args.seq.now) size (size - half) (c.args.to - c.args.from) (omega arith) (omega arith) c.loop-size.invariant.spent (omega (arith, c.ask.ensures.rise, c.loop-size.invariant.same_cost));
    }

pub returns-clause-ok : goal.returns-clause-ok
returns-clause-ok g c =
    let f = asked_at c.args.question (standing g.S.IndexOrd.stands (g.S.IndexOrd.sequence c.args.seq.now) c.args.value.now) in
    let base = c.loop-size.base in
    let size = c.loop-size.size in
    let halved = c.loop-size.invariant.halved in
    let at : c.in_ok-ask-2.field-0 ≡ f base = told_asked c.args.question g.S.IndexOrd.stands (g.S.IndexOrd.sequence c.args.seq.now) (g.S.IndexOrd.sequence c.loop-size.seq) c.args.value.now base c.in_ok-ask-2.field-0 c.loop-size.invariant.same c.in_ok-ask-2.ensures.ok in
    elim c.match-branch-3.branch [
      | in-Equal w ↦ subst (IsWhere f c.args.from c.args.to) (sym w.result-is) (found_here f c.args.from c.args.to base size halved (sym at ∙ w.in-Equal.is))
      | in-Less w ↦ subst (IsWhere f c.args.from c.args.to) (sym w.result-is) (behind_it f c.args.from c.args.to base size c.requires.ascends halved (omega arith) (sym at ∙ w.in-Less.is))
      | in-Greater w ↦ subst (IsWhere f c.args.from c.args.to) (sym w.result-is) (before_it f c.args.from c.args.to base size c.requires.ascends halved (sym at ∙ w.in-Greater.is))
    ]
