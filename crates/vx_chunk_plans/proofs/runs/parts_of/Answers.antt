use Rattle.std.proofs.Common.{arith, ap, sym, ◌∙◌, ◌≡◌, ◌<◌, ◌+◌, ◌++◌, take, length, get_or, ℕ, List}
use Rattle.vx_search.specs.Places.{search_bound}
use Rattle.vx_chunk_plans.specs.Runs.{run_rows, has_rows}
use Rattle.vx_chunk_plans.proofs.Cutting.{rows_more, cost_more_by, cost_within_by}
use Rattle.vx_chunk_plans.proofs.runs.parts_of.Goals as goal

pub loop-run-preserved : goal.loop-run-preserved
loop-run-preserved g c =
    let lens = c.args.boundaries.now in
    let runs = c.args.runs.now in
    let i = c.loop-run.run-index in
    let inside : i < length runs = omega arith in
    record {
      rows = rows_more runs i _ _ inside c.loop-run.invariant.rows c.in_ok-push_run.ensures.ok;
      there = c.in_ok-push_run.ensures.there c.loop-run.invariant.there;
      cost = cost_more_by has_rows runs i (0, 0) c.args.steps.now c.loop-run.steps c.push_run.new.steps (search_bound (length lens + 1)) inside c.loop-run.invariant.cost c.push_run.ensures.rise;
      rise = omega arith;
    }

pub returns-in_err-push_run-clause-rise : goal.returns-in_err-push_run-clause-rise
returns-in_err-push_run-clause-rise g c =
    cost_within_by has_rows c.args.runs.now c.loop-run.run-index (0, 0) c.args.steps.now c.loop-run.steps c.push_run.new.steps (search_bound (length c.args.boundaries.now + 1)) (omega arith) c.loop-run.invariant.cost c.push_run.ensures.rise
