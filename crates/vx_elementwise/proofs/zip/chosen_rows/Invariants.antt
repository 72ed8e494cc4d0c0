use Rattle.std.proofs.Common.{◌≡◌, ◌+◌, ◌-◌, ◌≤◌, length, take}
use Rattle.vx_scalars.specs.Elementwise.{chosen}
use Rattle.vx_elementwise.proofs.zip.chosen_rows.Given as goal

abbrev pub invariant-loop-start : goal.invariant-loop-start
invariant-loop-start g l = record {
  inside : l.start ≤ length l.choice;
  rows : l.rows ≡ chosen (take l.start l.column.rows) (take l.start l.other.rows) (take l.start l.choice);
  cost : l.steps ≡ l.fn.steps + l.start;
}

abbrev pub decreases-loop-start : goal.decreases-loop-start
decreases-loop-start g l = length l.choice - l.start
