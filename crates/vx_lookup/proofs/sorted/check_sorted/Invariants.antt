use Rattle.std.proofs.Common.{◌≡◌, ℕ, ◌+◌, ◌<◌, ◌≤◌, ◌∷◌, get_or, None}
use Rattle.vx_job.specs.Lookups.{FallsAt}
use Rattle.vx_lookup.proofs.sorted.check_sorted.Given as goal

abbrev pub invariant-loop-i : goal.invariant-loop-i
invariant-loop-i g l = record {
  here : l.before ≡ get_or (None ∷ l.rows.rows) l.i None;
  so_far : (k : ℕ) → k + 1 < l.i → FallsAt l.rows.rows k → ⊥;
  monotone : l.initial.steps ≤ l.steps;
}
