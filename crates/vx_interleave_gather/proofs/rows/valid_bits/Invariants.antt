use Rattle.std.proofs.Common.{◌≡◌, ◌+◌, ◌*◌, length, map, take}
use Rattle.std.specs.Option.{is_some}
use Rattle.vx_interleave.specs.Selections.{selection, pairs_of}
use Rattle.vx_interleave_gather.specs.Gathered.{lists_of, named}
use Rattle.vx_interleave_gather.proofs.rows.valid_bits.Given as goal

abbrev pub invariant-loop-i : goal.invariant-loop-i
invariant-loop-i g l = record {
  bits : l.bits.items ≡ map is_some (map (named (lists_of l.values)) (take l.i (pairs_of (selection l.array_indices l.row_indices))));
  len : length l.bits.items ≡ l.i;
  cost : l.steps ≡ l.fn.steps + 3 * l.i;
}
