use Rattle.std.proofs.Common.{ℕ, ◌≡◌, ◌+◌, ◌*◌, ◌≤◌, ◌<◌, length, slice_index, drop, true}
use Rattle.vx_base.specs.Numbers.{numbers_of}
use Rattle.vx_base.specs.Checks.{counts_below}
use Rattle.vx_base.proofs.checks.counts_below.Given as goal

abbrev pub invariant-loop-i : goal.invariant-loop-i
invariant-loop-i l = record {
  inside : l.seen ≤ length l.indices.rows;
  below : l.sorted ≡ true → (k : ℕ) → k < l.seen → slice_index (numbers_of l.indices.rows) k < 1024 * (l.start + l.i);
  rest : counts_below l.start (numbers_of l.offsets.rows) (numbers_of l.indices.rows) ≡ counts_below (l.start + l.i) (drop l.i (numbers_of l.offsets.rows)) (numbers_of l.indices.rows);
}
