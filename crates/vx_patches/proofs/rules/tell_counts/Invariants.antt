use Rattle.std.proofs.Common.{◌≡◌, ◌≤◌, ◌+◌, ◌*◌, length, drop}
use Rattle.vx_base.specs.Numbers.{numbers_of}
use Rattle.vx_base.specs.Checks.{counts_below}
use Rattle.vx_patches.specs.Making.{told}
use Rattle.vx_patches.proofs.rules.tell_counts.Given as goal

abbrev pub invariant-loop-i : goal.invariant-loop-i
invariant-loop-i g l = record {
  rest : counts_below l.first (told l.within (length (numbers_of l.indices.rows)) (numbers_of l.offsets.rows)) (numbers_of l.indices.rows)
      ≡ counts_below (l.first + l.i) (drop l.i (told l.within (length (numbers_of l.indices.rows)) (numbers_of l.offsets.rows))) (numbers_of l.indices.rows);
  rise : l.steps ≤ l.fn.steps + (3 * l.i + 1);
  monotone : l.fn.steps ≤ l.steps;
}
