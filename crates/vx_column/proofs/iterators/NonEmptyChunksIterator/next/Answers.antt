use Rattle.std.proofs.Common.{arith, ap, sym, subst, length, ◌∙◌}
use Rattle.std.specs.List.{All}
use Rattle.std.proofs.lemmas.List.Elements.{All-head, All-tail}
use Rattle.vx_column.specs.Columns.{IsSound}
use Rattle.vx_column.specs.Chunks.{filled}
use Rattle.vx_column.proofs.Chunks.{filled_more, filled_past, filled_none}
use Rattle.vx_column.proofs.iterators.NonEmptyChunksIterator.next.Goals as goal

pub loop-first-init : goal.loop-first-init
loop-first-init c = record { left = c.self.view_is; sound = c.self.invariant }

pub len-requires : goal.len-requires
len-requires c = All-head IsSound c.in-Some.first.now c.in-Some.others.now (subst (All IsSound) c.in-Some.ensures.cases.0 c.loop-first.invariant.sound)

pub invariant_of-self : goal.invariant_of-self
invariant_of-self c = All-tail IsSound c.in-Some.first.now c.in-Some.others.now (subst (All IsSound) c.in-Some.ensures.cases.0 c.loop-first.invariant.sound)

pub returns-then-len-gt0-clause-steps : goal.returns-then-len-gt0-clause-steps
returns-then-len-gt0-clause-steps c =
    sym c.loop-first.invariant.left ∙ ap filled c.in-Some.ensures.cases.0 ∙ filled_more c.in-Some.first.now c.in-Some.others.now (omega (arith, c.if-len-gt0.true, c.len.ensures))

pub returns-then-len-gt0-clause-goes : goal.returns-then-len-gt0-clause-goes
returns-then-len-gt0-clause-goes c =
    omega (arith, ap length (sym c.loop-first.invariant.left ∙ ap filled c.in-Some.ensures.cases.0 ∙ filled_more c.in-Some.first.now c.in-Some.others.now (omega (arith, c.if-len-gt0.true, c.len.ensures))))

pub loop-first-smaller : goal.loop-first-smaller
loop-first-smaller c = omega (arith, c.in-Some.ensures.cases.1)

pub loop-first-preserved : goal.loop-first-preserved
loop-first-preserved c = record {
  left = sym (filled_past c.in-Some.first.now c.in-Some.others.now (omega (arith, c.if-len-gt0.false, c.len.ensures))) ∙ ap filled (sym c.in-Some.ensures.cases.0) ∙ c.loop-first.invariant.left;
  sound = All-tail IsSound c.in-Some.first.now c.in-Some.others.now (subst (All IsSound) c.in-Some.ensures.cases.0 c.loop-first.invariant.sound);
}

pub returns-clause-steps : goal.returns-clause-steps
returns-clause-steps c =
    let none = filled_none c.loop-first.rest.now c.in_default.ensures.cases in
    (sym c.loop-first.invariant.left ∙ none, none)
