use Rattle.std.proofs.Common.{arith, ◌≡◌, ◌+◌, ◌-◌, ◌≤◌, ◌++◌, ℕ, length, take, get_or, sym, ◌∙◌}
use Rattle.std.specs.List.{slice_range}
use Rattle.vx_job.specs.Rows.{Rows, picked}
use Rattle.vx_column.proofs.Appends.{appended_next}
use Rattle.vx_chunk_plans.specs.Filters.{slice_places}
use Rattle.vx_select.proofs.Fits.{fits_picked}
use Rattle.vx_select.proofs.Filtered.{ranges_below, slices_more, slices_few, slice_rows}
use Rattle.vx_select.proofs.chunk_filter.append_ranges.Goals as goal

pub returns-in_err-append_into-clause-fits : goal.returns-in_err-append_into-clause-fits
returns-in_err-append_into-clause-fits g c =
    let rows : Rows = c.args.rows.now.rows in
    fits_picked c.args.rows.now.dtype rows (slice_places c.args.slices.now) c.dtype.ensures.fits (ranges_below (length rows) c.args.slices.now c.requires)

pub returns-in_err-append_into-clause-rise : goal.returns-in_err-append_into-clause-rise
returns-in_err-append_into-clause-rise g c =
    let none : ℕ × ℕ = (0, 0) in
    omega (arith, c.append_into.ensures.cost, c.loop-slice.invariant.rise, slices_few c.args.slices.now c.loop-slice.slice-index none c.loop-slice-test.true)

pub loop-slice-preserved : goal.loop-slice-preserved
loop-slice-preserved g c =
    let rows : Rows = c.args.rows.now.rows in
    let slices = c.args.slices.now in
    let i = c.loop-slice.slice-index in
    let none : ℕ × ℕ = (0, 0) in
    let slice = get_or slices i none in
    record {
      appended = appended_next c.args.out.now (picked rows (slice_places (take i slices))) c.loop-slice.out (slice_range rows slice.0 slice.1) c.append_into.new.out
          (picked rows (slice_places (take (i + 1) slices))) c.loop-slice.invariant.appended c.in_ok-append_into.ensures.ok (slice_rows rows slices i none c.requires c.loop-slice-test.true);
      rise = omega (arith, c.append_into.ensures.cost, c.loop-slice.invariant.rise, slices_more slices i none c.loop-slice-test.true);
    }

pub returns-clause-fits : goal.returns-clause-fits
returns-clause-fits g c =
    let rows : Rows = c.args.rows.now.rows in
    fits_picked c.args.rows.now.dtype rows (slice_places c.args.slices.now) c.dtype.ensures.fits (ranges_below (length rows) c.args.slices.now c.requires)
