use Rattle.std.proofs.Common.{◌≡◌, ◌∙◌, ℕ, List, Option, length, sym, ap, arith}
use Rattle.std.proofs.lemmas.List.{length-map}
use Rattle.std.proofs.lemmas.Result.{IfOk-weaker}
use Rattle.vx_rows.specs.declared.dtype.DType.{DType}
use Rattle.vx_rows.specs.Types.{nullability}
use Rattle.vx_rows.specs.Fits.{is_nullable}
use Rattle.vx_patches.specs.Pairs.{Overlay}
use Rattle.vx_patch_select.specs.Selected.{taken_pairs}
use Rattle.vx_patch_select.specs.Plans.{placed_some, taken_of}
use Rattle.vx_patch_select.specs.Takes.{asked_index, asked, taken}
use Rattle.vx_patch_select.proofs.Asking.{taken_cost}
use Rattle.vx_patch_select.proofs.Planned.{plan_number, plan_rises, plan_below, plan_few, plan_there, plan_takes}
use Rattle.vx_patch_select.proofs.take.taken_by.Goals as goal

pub left_of-requires-clause-number : goal.left_of-requires-clause-number
left_of-requires-clause-number g c = plan_number c.args.include_nulls (g.P.Lookup.rows c.args.lookup.now) (asked c.args.indices.now.rows) c.in_ok-plan.plan c.in_ok-plan.ensures.ok

pub left_of-requires-clause-rising : goal.left_of-requires-clause-rising
left_of-requires-clause-rising g c = plan_rises c.args.include_nulls (g.P.Lookup.rows c.args.lookup.now) (asked c.args.indices.now.rows) c.in_ok-plan.plan c.in_ok-plan.ensures.ok

pub left_of-requires-clause-below : goal.left_of-requires-clause-below
left_of-requires-clause-below g c =
    let rows = c.args.indices.now.rows in
    plan_below c.args.include_nulls (g.P.Lookup.rows c.args.lookup.now) (asked rows) c.in_ok-plan.plan c.in_ok-plan.ensures.ok c.len.result (length-map rows asked_index ∙ sym c.len.ensures)

pub left_of-requires-clause-within : goal.left_of-requires-clause-within
left_of-requires-clause-within g c =
    let rows = c.args.indices.now.rows in
    plan_there c.args.include_nulls c.args.patches.now c.array_len-row_count.ensures.sound (asked rows) c.in_ok-plan.plan
    (c.in_ok-plan.ensures.ok ∙ ap (λ (rs : List ℕ). taken_of (taken_pairs c.args.include_nulls (placed_some rs) (asked rows))) c.requires.rows)

pub returns-clause-ok : goal.returns-clause-ok
returns-clause-ok g c =
    let column = c.args.indices.now in
    let o = c.args.patches.now in
    let nulls = c.args.include_nulls in
    let is = c.in_ok-plan.ensures.ok ∙ ap (λ (rs : List ℕ). taken_of (taken_pairs nulls (placed_some rs) (asked column.rows))) c.requires.rows in
    IfOk-weaker c.left_of.result _ (λ (left : Option Overlay). left ≡ taken nulls o column)
    (λ left e. e ∙ plan_takes nulls o c.array_len-row_count.ensures.sound column c.in_ok-plan.plan c.len.result c.is_nullable-may_be_null.result c.dtype.ensures.fits c.requires.unsigned is c.len.ensures
    (c.is_nullable-may_be_null.ensures ∙ ap is_nullable c.nullability.ensures ∙ ap (λ (t : DType). is_nullable (nullability t)) c.dtype.ensures.dtype)) c.left_of.ensures.ok

pub returns-clause-rise : goal.returns-clause-rise
returns-clause-rise g c =
    let rows = c.args.indices.now.rows in
    taken_cost c.args.steps.now c.plan_asked.new.steps c.left_of.new.steps (length rows) (length c.in_ok-plan.plan.places) (g.P.Lookup.lookup_cost c.args.lookup.now)
    (omega (arith, plan_few c.args.include_nulls (g.P.Lookup.rows c.args.lookup.now) (asked rows) c.in_ok-plan.plan c.in_ok-plan.ensures.ok, length-map rows asked_index)) c.plan_asked.ensures.rise c.left_of.ensures.rise
