use Rattle.std.proofs.Common.{arith, subst, sym, refl, ◌≡◌, ◌∙◌, ◌≢◌, ℕ, suc, ◌+◌, ◌-◌, ◌/◌, ◌<◌, ◌≤◌, IfOk}
use Rattle.std.specs.declared.cmp.Ordering.TheVariants.{Greater}
use Rattle.vx_search.specs.Closures.{AnswersBelow}
use Rattle.vx_search.specs.Halving.{IsWhere, log_up}
use Rattle.vx_search.proofs.Powers.{spent_more, rounds_some, log_halved, log_doubled, log_least}
use Rattle.vx_search.proofs.Halvings.{IsHalved, halved_start, halved_up, halved_down, found_here, behind_it, before_it, passed, failed}
use Rattle.vx_search.proofs.Calls.{may_call, next_below}
use Rattle.vx_search.proofs.by.halve_by.Goals as goal
use Rattle.vx_search.proofs.by.halve_by.Goals.{then-ne, else-ne, in-Equal, in-Less, in-Greater}

pub loop-size-init : goal.loop-size-init
loop-size-init g c =
    let n = c.args.to - c.args.from in
    let more : 0 < n = omega arith in
    record {
      front = omega arith;
      back = omega arith;
      some = omega arith;
      callable = subst (λ k. AnswersBelow g.F.FnMut c.args.to (λ _ _. Unit {0}) k c.args.find) (rounds_some n more) c.requires.callable;
      halved = λ f a up. (
        subst (λ k. AnswersBelow g.F.FnMut c.args.to (λ k r. IfOk r (λ o. o ≡ f k)) k c.args.find) (rounds_some n more) a,
        halved_start f c.args.from c.args.to (omega arith),
      );
      asked = (0, omega arith, refl);
      monotone = omega arith;
      spent = omega arith;
      least = omega arith;
    }

pub ask_by-requires : goal.ask_by-requires
ask_by-requires g c =
    may_call g.F.FnMut c.args.to (λ _ _. Unit {0}) (log_up c.loop-size.size + 1) c.loop-size.find (c.loop-size.base + c.loop-size.size / 2) (omega arith) (omega arith) c.loop-size.invariant.callable

pub ask_by-requires-2 : goal.ask_by-requires-2
ask_by-requires-2 g c = may_call g.F.FnMut c.args.to (λ _ _. Unit {0}) (log_up c.loop-size.size + 1) c.loop-size.find c.loop-size.base (omega arith) (omega arith) c.loop-size.invariant.callable

pub loop-size-preserved : goal.loop-size-preserved
loop-size-preserved g c =
    let size = c.loop-size.size in
    let half = size / 2 in
    let base = c.loop-size.base in
    let asked = c.loop-size.invariant.asked in
    let fewer : log_up (size - half) + 1 ≤ log_up size = log_halved size (size - half) (omega arith) (omega arith) in
    record {
      front = elim c.if-ne.branch [ then-ne w ↦ omega (arith, w.base-is) | else-ne w ↦ omega (arith, w.base-is) ];
      back = elim c.if-ne.branch [ then-ne w ↦ omega (arith, w.base-is) | else-ne w ↦ omega (arith, w.base-is) ];
      some = omega arith;
      callable = (next_below g.F.FnMut c.args.to (λ _ _. Unit {0}) (log_up size + 1) (log_up (size - half) + 1) c.loop-size.find (base + half) c.ask_by.result c.ask_by.new.find (omega (arith, fewer)) (omega arith) c.ask_by.ensures.called c.loop-size.invariant.callable).1;
      halved = λ f a up.
          let i = c.loop-size.invariant.halved f a up in
          let next = next_below g.F.FnMut c.args.to (λ k r. IfOk r (λ o. o ≡ f k)) (log_up size + 1) (log_up (size - half) + 1) c.loop-size.find (base + half) c.ask_by.result c.ask_by.new.find (omega (arith, fewer)) (omega arith) c.ask_by.ensures.called i.0 in
          let at : c.in_ok-ask_by.field-0 ≡ f (base + half) = subst (λ r. IfOk r (λ o. o ≡ f (base + half))) c.in_ok-ask_by.was next.0 in
          let P : ℕ → Type 0 = λ b. IsHalved f c.args.from c.args.to b (size - half) in (
            next.1,
            elim c.if-ne.branch [
              | then-ne w ↦ subst P (sym w.base-is) (halved_up f c.args.from c.args.to base size half i.1 (omega arith) (omega arith) (subst (λ o. o ≢ Greater) at (passed c.in_ok-ask_by.field-0 c.ne.result c.ne.ensures w.if-ne.true)))
              | else-ne w ↦ subst P (sym w.base-is) (halved_down f c.args.from c.args.to base size half up i.1 (omega arith) (omega arith) (sym at ∙ failed c.in_ok-ask_by.field-0 c.ne.result c.ne.ensures w.if-ne.false))
            ],
          );
      asked = (suc asked.0, omega (arith, fewer, asked.1), (c.loop-size.find, base + half, c.ask_by.result, omega arith, c.ask_by.ensures.called, asked.2));
      monotone = omega arith;
      spent = spent_more c.loop-size.steps c.ask_by.new.steps c.args.steps.now 1 size (size - half) (c.args.to - c.args.from) (omega arith) (omega arith) c.loop-size.invariant.spent (omega (arith, c.ask_by.ensures.cost));
      least = omega (arith, log_doubled size (size - half) (omega arith), c.loop-size.invariant.least, c.ask_by.ensures.cost);
    }

pub returns-clause-least : goal.returns-clause-least
returns-clause-least g c =
    let one = log_least c.loop-size.size 0 (omega arith) in
    omega (arith, one, rounds_some (c.args.to - c.args.from) (omega arith), c.loop-size.invariant.least, c.ask_by-2.ensures.cost)

pub returns-clause-ok : goal.returns-clause-ok
returns-clause-ok g c = λ f a up.
    let base = c.loop-size.base in
    let size = c.loop-size.size in
    let i = c.loop-size.invariant.halved f a up in
    let next = next_below g.F.FnMut c.args.to (λ k r. IfOk r (λ o. o ≡ f k)) (log_up size + 1) (log_up size) c.loop-size.find base c.ask_by-2.result c.ask_by-2.new.find (omega arith) (omega arith) c.ask_by-2.ensures.called i.0 in
    let at : c.in_ok-ask_by-2.field-0 ≡ f base = subst (λ r. IfOk r (λ o. o ≡ f base)) c.in_ok-ask_by-2.was next.0 in
    elim c.match-branch-3.branch [
      | in-Equal w ↦ subst (IsWhere f c.args.from c.args.to) (sym w.result-is) (found_here f c.args.from c.args.to base size i.1 (sym at ∙ w.in-Equal.is))
      | in-Less w ↦ subst (IsWhere f c.args.from c.args.to) (sym w.result-is) (behind_it f c.args.from c.args.to base size up i.1 (omega arith) (sym at ∙ w.in-Less.is))
      | in-Greater w ↦ subst (IsWhere f c.args.from c.args.to) (sym w.result-is) (before_it f c.args.from c.args.to base size up i.1 (sym at ∙ w.in-Greater.is))
    ]
