use Rattle.std.proofs.Common.{◌≡◌, ◌+◌, ◌++◌, take, length}
use Rattle.vx_job.specs.Rows.{picked}
use Rattle.vx_chunk_plans.specs.Filters.{slice_places}
use Rattle.vx_select.proofs.chunk_filter.append_ranges.Given as goal

abbrev pub invariant-loop-slice : goal.invariant-loop-slice
invariant-loop-slice g l = record {
  appended : l.out ≡ l.initial.out ++ picked l.rows.rows (slice_places (take l.slice-index l.slices));
  rise : l.steps ≡ l.initial.steps + length (slice_places (take l.slice-index l.slices));
}
