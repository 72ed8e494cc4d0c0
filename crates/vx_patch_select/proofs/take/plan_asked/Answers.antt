use Rattle.std.proofs.Common.{◌≡◌, ◌∙◌, ℕ, List, Option, length, ap}
use Rattle.std.proofs.lemmas.List.{length-map}
use Rattle.std.proofs.lemmas.Result.{IfOk-weaker}
use Rattle.vx_patch_select.specs.declared.plan.Taken.{Taken}
use Rattle.vx_patch_select.specs.Selected.{taken_pairs}
use Rattle.vx_patch_select.specs.Plans.{placed_some, taken_of}
use Rattle.vx_patch_select.specs.Takes.{asked_index, asked}
use Rattle.vx_patch_select.proofs.Asking.{asked_cost}
use Rattle.vx_patch_select.proofs.take.plan_asked.Goals as goal

pub returns-clause-ok : goal.returns-clause-ok
returns-clause-ok g c =
    let plan : List (Option ℕ) → Taken = λ xs. taken_of (taken_pairs c.args.include_nulls (placed_some (g.P.Lookup.rows c.args.lookup.now)) xs) in
    IfOk-weaker c.plan_take.result _ (λ (t : Taken). t ≡ plan (asked c.args.indices.now.rows)) (λ t e. e ∙ ap plan (c.as_slice.ensures ∙ c.in_ok-asked.ensures.ok)) c.plan_take.ensures.ok

pub returns-clause-rise : goal.returns-clause-rise
returns-clause-rise g c =
    let rows = c.args.indices.now.rows in
    asked_cost c.args.steps.now c.asked_indices.new.steps c.plan_take.new.steps (length rows) (length c.as_slice.result.now) (g.P.Lookup.lookup_cost c.args.lookup.now)
    (ap length (c.as_slice.ensures ∙ c.in_ok-asked.ensures.ok) ∙ length-map rows asked_index) c.asked_indices.ensures.rise c.plan_take.ensures.rise
