use Rattle.std.proofs.Common.{arith, ap, sym, subst, inl, inr, ◌∙◌, ◌≡◌, ◌<◌, ◌^◌, List, ℕ, IfOk, IfErr, length}
use Rattle.std.specs.List.{All, flat_map}
use Rattle.std.proofs.lemmas.Result.{IfOk-weaker, IfErr-weaker, err_from_is_err_and}
use Rattle.vx_chunks.specs.Bounds.{total}
use Rattle.vx_chunk_plans.specs.Runs.{run_rows, piece_rows, in_runs, part_row, IsPartOf, RunsCause}
use Rattle.vx_chunk_plans.specs.declared.runs.RunsPlan.{RunsPlan}
use Rattle.vx_chunk_plans.proofs.Cutting.{Part, wide_is}
use Rattle.vx_chunk_plans.proofs.runs.runs_plan.Goals as goal

pub plan_of-requires-clause-fits : goal.plan_of-requires-clause-fits
plan_of-requires-clause-fits g c =
    omega (arith, ap (λ (ps : List Part). length (flat_map (part_row c.args.boundaries.now) ps)) c.as_slice.ensures.value, ap length c.in_ok-parts.ensures.ok, wide_is c.args.runs.now, c.in_ok-check_sum.ensures.ok)
