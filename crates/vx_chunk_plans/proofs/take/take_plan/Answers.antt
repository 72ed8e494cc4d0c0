use Rattle.std.proofs.Common.{arith, ap, sym, subst, inl, ◌∙◌, ◌≡◌, ◌≤◌, ◌&&◌, true, None, List, Option, IfOk, IfErr, take}
use Rattle.std.specs.Prelude.{is_some}
use Rattle.std.specs.List.{All, list_all}
use Rattle.std.proofs.lemmas.Bool.{and_from}
use Rattle.std.proofs.lemmas.Result.{IfOk-weaker, IfErr-weaker}
use Rattle.vx_chunks.specs.Bounds.{total}
use Rattle.vx_rows.specs.declared.error.ColumnError.TheVariants.{OutOfMemory}
use Rattle.vx_chunk_plans.specs.Deals.{in_turn, present}
use Rattle.vx_chunk_plans.specs.Takes.{bucket_rows, in_order, never_falls, rows_of, IsThere, TakeCause}
use Rattle.vx_chunk_plans.specs.declared.take.TakePlan.{TakePlan}
use Rattle.vx_chunk_plans.proofs.Taking.{Spots, spots_there, spots_rows, spots_present, spots_turn}
use Rattle.vx_chunk_plans.proofs.take.take_plan.Goals as goal

pub plan_of-requires : goal.plan_of-requires
plan_of-requires g c =
    let lens = c.args.boundaries.now in
    subst (λ (ss : Spots). All (IsThere lens) (present ss)) (sym c.as_slice.ensures.value) (spots_there lens c.args.indices.now c.in_ok-spots.spots.items c.in_ok-spots.ensures.ok)

pub returns-clause-ok : goal.returns-clause-ok
returns-clause-ok g c =
    let lens = c.args.boundaries.now in
    let same = ap (rows_of lens) c.as_slice.ensures.value ∙ spots_rows lens c.args.indices.now c.in_ok-spots.spots.items c.in_ok-spots.ensures.ok in
    IfOk-weaker c.plan_of.result _ (λ (plan : TakePlan). in_order (bucket_rows lens plan.buckets) plan.order ≡ c.args.indices.now) (λ plan p. p ∙ same) c.plan_of.ensures.ok

pub returns-clause-joined : goal.returns-clause-joined
returns-clause-joined g c =
    let lens = c.args.boundaries.now in
    let indices = c.args.indices.now in
    let spots = c.in_ok-spots.spots.items in
    let zip = c.in_ok-spots.ensures.ok in
    let first : total (take 0 lens) ≤ 0 = omega arith in
    IfOk-weaker c.plan_of.result _ (λ (plan : TakePlan). list_all is_some indices ≡ true → never_falls 0 indices ≡ true → plan.order ≡ None)
    (λ plan p all rising. p (subst (λ (ss : Spots). (list_all is_some ss && in_turn 0 (present ss)) ≡ true) (sym c.as_slice.ensures.value)
    (and_from (list_all is_some spots) (in_turn 0 (present spots)) (spots_present lens indices spots zip all) (spots_turn lens 0 0 indices spots zip first rising))))
    c.plan_of.ensures.joined

pub returns-clause-err : goal.returns-clause-err
returns-clause-err g c = IfErr-weaker c.plan_of.result _ (TakeCause (total c.args.boundaries.now) c.args.indices.now) (λ e why. inl why) c.plan_of.ensures.err
