use Rattle.std.proofs.Common.{◌≡◌, ◌≤◌, ◌++◌, take}
use Rattle.std.specs.List.{slice_range}
use Rattle.vx_scalars.specs.Elementwise.{filled}
use Rattle.vx_elementwise.proofs.fill.push_filled.Given as goal

-- the rows so far, and those of a run that are still to be appended
abbrev pub invariant-loop-i : goal.invariant-loop-i
invariant-loop-i l = record {
  order : l.start ≤ l.i;
  rows : l.filled ++ slice_range l.rows l.start l.i ≡ l.fn.filled ++ filled l.value (take l.i l.rows);
}
