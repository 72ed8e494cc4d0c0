use Rattle.std.proofs.Common.{arith, sym, subst, ◌∙◌, ◌<◌, ◌≤◌, length, take, get_or, slice_index, ℕ, List, ◌≡◌, IsTrue}
use Rattle.std.proofs.lemmas.List.{length-drop, take_rest}
use Rattle.std.specs.List.{range_with_len}
use Rattle.std.proofs.lemmas.List.Elements.{All-take}
use Rattle.vx_rows.specs.Fits.{rows_fit}
use Rattle.vx_job.specs.Rows.{Rows}
use Rattle.vx_select.proofs.Fits.{fits_picked}
use Rattle.vx_select.proofs.Ranges.{run_from, run_inside, picked_run}
use Rattle.vx_select.proofs.gathering.flat_rows.Goals as goal

pub overflow_add-start : goal.overflow_add-start
overflow_add-start g c =
    let rows : Rows = c.args.rows.now.rows in
    let places = c.args.places.now in
    let done = c.loop-done.done in
    let count = c.side_by_side-count.result in
    let rest = take_rest places done in
    let run = run_from places done count (subst (λ (ns : List ℕ). take count ns ≡ range_with_len (slice_index ns 0) count) rest c.side_by_side-count.ensures.run) in
    let within = subst (λ (ns : List ℕ). count ≤ length ns) rest c.side_by_side-count.ensures.within in
    let inside = run_inside (length rows) places done (get_or places done 0) count c.requires c.side_by_side-count.ensures.some within run in
    omega (arith, inside, c.len.ensures, c.len.type_inv)

pub append_into-requires-clause-inside : goal.append_into-requires-clause-inside
append_into-requires-clause-inside g c =
    let rows : Rows = c.args.rows.now.rows in
    let places = c.args.places.now in
    let done = c.loop-done.done in
    let count = c.side_by_side-count.result in
    let rest = take_rest places done in
    let run = run_from places done count (subst (λ (ns : List ℕ). take count ns ≡ range_with_len (slice_index ns 0) count) rest c.side_by_side-count.ensures.run) in
    let within = subst (λ (ns : List ℕ). count ≤ length ns) rest c.side_by_side-count.ensures.within in
    run_inside (length rows) places done (get_or places done 0) count c.requires c.side_by_side-count.ensures.some within run

pub loop-done-preserved : goal.loop-done-preserved
loop-done-preserved g c =
    let rows : Rows = c.args.rows.now.rows in
    let places = c.args.places.now in
    let done = c.loop-done.done in
    let count = c.side_by_side-count.result in
    let rest = take_rest places done in
    let run = run_from places done count (subst (λ (ns : List ℕ). take count ns ≡ range_with_len (slice_index ns 0) count) rest c.side_by_side-count.ensures.run) in
    let within = subst (λ (ns : List ℕ). count ≤ length ns) rest c.side_by_side-count.ensures.within in
    let inside = run_inside (length rows) places done (get_or places done 0) count c.requires c.side_by_side-count.ensures.some within run in
    record {
      within = omega (arith, within, length-drop done places, c.loop-done-test.true);
      taken = c.in_ok-append_into.ensures.ok ∙ picked_run rows places done (get_or places done 0) count c.loop-done.taken c.loop-done.invariant.taken run inside;
      rise = omega (arith, c.loop-done.invariant.rise, c.append_into.ensures.cost);
    }

pub returns-clause-fits : goal.returns-clause-fits
returns-clause-fits g c =
    let rows : Rows = c.args.rows.now.rows in
    let t = c.args.rows.now.dtype in
    let done = c.loop-done.done in
    subst (λ (r : Rows). IsTrue (rows_fit t r)) (sym c.loop-done.invariant.taken)
    (fits_picked t rows (take done c.args.places.now) c.dtype.ensures.fits (All-take (λ p. p < length rows) done c.args.places.now c.requires))
