use Rattle.std.proofs.Common.{arith, sym, ap, subst, ◌∙◌, ◌≡◌, ◌+◌, ◌<◌, ◌≤◌, ℕ, List, length, map}
use Rattle.vx_job.specs.Rows.{Rows, picked}
use Rattle.vx_chunk_plans.specs.Filters.{kept_rows, kept_places}
use Rattle.vx_column.specs.Columns.{IsSound, rows_of, len_of, select_bound}
use Rattle.vx_column.specs.declared.column.Column.TheVariants as column
use Rattle.vx_column.proofs.Cuts.{held_at, same_at}
use Rattle.vx_select.proofs.Filtered.{turn_at, turn_inside, turn_within, rows_next, all_before, fits_next, cost_next, cost_all}
use Rattle.vx_select.proofs.chunk_filter.rows_by.Goals as goal

pub offset_bounds-chunks-k : goal.offset_bounds-chunks-k
offset_bounds-chunks-k g c =
    omega (arith, turn_inside c.args.array.now c.args.filters.now c.loop-k.k c.requires.within c.loop-k-test.true, ap length c.children-chunks.ensures.value, c.children-chunks.type_inv)

pub bounds-chunks-k : goal.bounds-chunks-k
bounds-chunks-k g c =
    omega (arith, turn_inside c.args.array.now c.args.filters.now c.loop-k.k c.requires.within c.loop-k-test.true, ap length c.children-chunks.ensures.value)

pub append_kept-requires-clause-sound : goal.append_kept-requires-clause-sound
append_kept-requires-clause-sound g c =
    let inside = turn_inside c.args.array.now c.args.filters.now c.loop-k.k c.requires.within c.loop-k-test.true in
    held_at IsSound c.children-chunks.result.now c.loop-k.k c.index-chunks-k.result c.children-chunks.ensures.sound (omega (arith, inside, ap length c.children-chunks.ensures.value)) c.index-chunks-k.is

pub append_kept-requires-clause-within : goal.append_kept-requires-clause-within
append_kept-requires-clause-within g c =
    let array = c.args.array.now in
    let filters = c.args.filters.now in
    let k = c.loop-k.k in
    let x = c.index-chunks-k.result in
    let f = c.index-filters-k.result in
    let turn = turn_at array filters c.children-chunks.result.now k x f c.requires.within c.loop-k-test.true c.children-chunks.ensures.value c.index-chunks-k.is c.index-filters-k.is in
    turn_within array filters k x f turn

pub returns-in_err-append_kept-clause-rise : goal.returns-in_err-append_kept-clause-rise
returns-in_err-append_kept-clause-rise g c =
    let array = c.args.array.now in
    let filters = c.args.filters.now in
    let k = c.loop-k.k in
    let x = c.index-chunks-k.result in
    let f = c.index-filters-k.result in
    let turn = turn_at array filters c.children-chunks.result.now k x f c.requires.within c.loop-k-test.true c.children-chunks.ensures.value c.index-chunks-k.is c.index-filters-k.is in
    let next = cost_next array filters k x f c.args.steps.now c.loop-k.steps c.append_kept.new.steps turn c.loop-k.invariant.rise c.append_kept.ensures.rise in
    cost_all array filters (k + 1) c.args.steps.now c.append_kept.new.steps next

pub loop-k-preserved : goal.loop-k-preserved
loop-k-preserved g c =
    let array = c.args.array.now in
    let filters = c.args.filters.now in
    let k = c.loop-k.k in
    let x = c.index-chunks-k.result in
    let f = c.index-filters-k.result in
    let turn = turn_at array filters c.children-chunks.result.now k x f c.requires.within c.loop-k-test.true c.children-chunks.ensures.value c.index-chunks-k.is c.index-filters-k.is in
    let more = picked (rows_of x) (kept_places (len_of x) f) in
    record {
      rows = rows_next array filters k x f c.loop-k.rows c.append_kept.new.out turn c.loop-k.invariant.rows c.in_ok-append_kept.ensures.ok;
      fits = fits_next array k x c.loop-k.rows more c.append_kept.new.out c.requires.sound turn.inside turn.chunk c.loop-k.invariant.fits c.in_ok-append_kept.ensures.fits c.in_ok-append_kept.ensures.ok;
      rise = cost_next array filters k x f c.args.steps.now c.loop-k.steps c.append_kept.new.steps turn c.loop-k.invariant.rise c.append_kept.ensures.rise;
      monotone = omega (arith, c.loop-k.invariant.monotone, c.append_kept.ensures.monotone);
    }

pub returns-clause-ok : goal.returns-clause-ok
returns-clause-ok g c =
    let array = c.args.array.now in
    let filters = c.args.filters.now in
    let done : length filters ≤ c.loop-k.k = omega (arith, c.loop-k-test.false) in
    c.loop-k.invariant.rows ∙ ap (picked (rows_of (column.Chunked array))) (all_before array filters c.loop-k.k c.requires.within done)

pub returns-clause-rise : goal.returns-clause-rise
returns-clause-rise g c = cost_all c.args.array.now c.args.filters.now c.loop-k.k c.args.steps.now c.loop-k.steps c.loop-k.invariant.rise
