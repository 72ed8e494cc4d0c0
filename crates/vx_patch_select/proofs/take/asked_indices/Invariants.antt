use Rattle.std.proofs.Common.{◌≡◌, ◌+◌, take}
use Rattle.vx_patch_select.specs.Takes.{asked}
use Rattle.vx_patch_select.proofs.take.asked_indices.Given as goal

abbrev pub invariant-loop-row : goal.invariant-loop-row
invariant-loop-row g l = record {
  items : l.asked.items ≡ asked (take l.row l.indices.rows);
  cost : l.steps ≡ l.fn.steps + l.row;
}
