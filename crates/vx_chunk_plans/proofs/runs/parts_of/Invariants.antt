use Rattle.std.proofs.Common.{◌≡◌, ◌≤◌, ◌+◌, ◌*◌, take, length}
use Rattle.std.specs.Prelude.{count_by}
use Rattle.std.specs.List.{All, flat_map}
use Rattle.vx_search.specs.Places.{search_bound}
use Rattle.vx_chunk_plans.specs.Runs.{run_rows, has_rows, part_row, IsPartOf}
use Rattle.vx_chunk_plans.proofs.runs.parts_of.Given as goal

abbrev pub invariant-loop-run : goal.invariant-loop-run
invariant-loop-run g l = record {
  rows : flat_map (part_row l.boundaries) l.parts.items ≡ run_rows (take l.run-index l.runs);
  there : All (IsPartOf l.boundaries) l.parts.items;
  cost : l.steps ≤ l.fn.steps + count_by has_rows (take l.run-index l.runs) * search_bound (length l.boundaries + 1);
  rise : l.fn.steps ≤ l.steps;
}
