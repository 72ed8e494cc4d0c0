use Rattle.std.proofs.Common.{◌∙◌, ◌+◌, length, refl, sym, subst, arith}
use Rattle.vx_patch_select.specs.Plans.{IsTakenTo}
use Rattle.vx_patch_select.proofs.Taking.{taken_yes, taken_no}
use Rattle.vx_patch_select.proofs.Galloping.{spent_most, one_more}
use Rattle.vx_patch_select.proofs.lookup.plan_take.Goals as goal
use Rattle.vx_patch_select.proofs.lookup.plan_take.Goals.{in-Some+in_ok-push, in_default}

pub loop-position-preserved : goal.loop-position-preserved
loop-position-preserved g c =
    let rows = g.P.Lookup.rows c.args.patches.now in
    let inv = c.loop-position.invariant in
    let i = c.loop-position.position in
    record {
      taken = elim c.match-named_place.branch as (λ _. IsTakenTo c.args.include_nulls rows c.args.indices.now (i + 1) c.match-named_place.taken) [
        | in-Some+in_ok-push w ↦
            subst (IsTakenTo c.args.include_nulls rows c.args.indices.now (i + 1)) (sym w.taken-is)
            (taken_yes c.args.include_nulls rows c.args.indices.now i _ w.in-Some.place c.loop-position.taken w.push.new.self inv.taken c.loop-position-test.true refl
            (sym w.in-Some.is ∙ c.named_place.ensures.named) w.in_ok-push.ensures.places w.in_ok-push.ensures.indices)
        | in_default w ↦
            subst (IsTakenTo c.args.include_nulls rows c.args.indices.now (i + 1)) (sym w.taken-is)
            (taken_no c.args.include_nulls rows c.args.indices.now i _ c.loop-position.taken inv.taken c.loop-position-test.true refl w.in_default.ensures.named)
      ];
      spent = one_more c.args.steps.now c.loop-position.steps c.named_place.new.steps i (g.P.Lookup.lookup_cost c.args.patches.now) inv.spent c.named_place.ensures.rise;
      monotone = omega (arith, inv.monotone, c.named_place.ensures.monotone);
    }

pub returns-in_err-push-clause-rise : goal.returns-in_err-push-clause-rise
returns-in_err-push-clause-rise g c =
    spent_most c.args.steps.now c.loop-position.steps c.named_place.new.steps c.loop-position.position (length c.args.indices.now) (g.P.Lookup.lookup_cost c.args.patches.now) c.loop-position.invariant.spent
    c.named_place.ensures.rise (omega (arith, c.loop-position-test.true))
