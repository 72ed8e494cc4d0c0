use Rattle.std.proofs.Common.{◌≡◌, ◌+◌, ◌*◌, map, take}
use Rattle.vx_interleave.specs.Selections.{selection, pairs_of}
use Rattle.vx_interleave_gather.specs.Gathered.{lists_of, named}
use Rattle.vx_interleave_gather.proofs.rows.gathered_rows.Given as goal

abbrev pub invariant-loop-i : goal.invariant-loop-i
invariant-loop-i g l = record {
  rows : l.rows ≡ map (named (lists_of l.values)) (take l.i (pairs_of (selection l.array_indices l.row_indices)));
  cost : l.steps ≡ l.fn.steps + 3 * l.i;
}
