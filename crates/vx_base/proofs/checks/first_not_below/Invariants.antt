use Rattle.std.proofs.Common.{ℕ, ◌-◌, ◌≤◌, ◌<◌, length, slice_index}
use Rattle.vx_base.specs.Numbers.{numbers_of}
use Rattle.vx_base.proofs.checks.first_not_below.Given as goal

abbrev pub invariant-loop-place : goal.invariant-loop-place
invariant-loop-place l = record {
  after : l.from ≤ l.place;
  inside : l.place ≤ length l.indices.rows;
  below : (k : ℕ) → l.from ≤ k → k < l.place → slice_index (numbers_of l.indices.rows) k < l.bound;
}

abbrev pub decreases-loop-place : goal.decreases-loop-place
decreases-loop-place l = length l.indices.rows - l.place
