use Rattle.std.proofs.Common.{◌≡◌, ◌+◌, ◌≤◌, ◌++◌, take}
use Rattle.std.specs.List.{slice_range}
use Rattle.vx_masks.specs.Bits.{kept, count_true}
use Rattle.vx_masks.specs.Masks.{bits_of}
use Rattle.vx_bulk.proofs.gather.kept_rows.Given as goal

-- the rows so far, and those of a run that are still to be appended
abbrev pub invariant-loop-i : goal.invariant-loop-i
invariant-loop-i g l = record {
  order : l.start ≤ l.i;
  rows : l.rows ++ slice_range l.column.rows l.start l.i ≡ kept (take l.i l.column.rows) (take l.i (bits_of l.mask));
  rise : l.fn.steps ≤ l.steps;
  cost : l.steps + l.i ≡ l.fn.steps + count_true (take l.i (bits_of l.mask)) + l.start;
}
