use Rattle.std.proofs.Common.{◌≡◌, ℕ, ◌+◌, ◌<◌, ◌≤◌, length, get_or, None}
use Rattle.vx_lane_select.specs.Selected.{overlaid_entry}
use Rattle.vx_lane_select.proofs.taken.overlay.Given as goal

abbrev pub invariant-loop-k : goal.invariant-loop-k
invariant-loop-k g l = record {
  len : length l.rows ≡ length l.fn.rows;
  laid : (j : ℕ) → j < l.k → get_or l.rows j None ≡ overlaid_entry l.lanes (get_or l.taken j None) (get_or l.fn.rows j None);
  rest : (j : ℕ) → l.k ≤ j → get_or l.rows j None ≡ get_or l.fn.rows j None;
  rise : l.steps ≤ l.initial.steps + l.k;
  monotone : l.initial.steps ≤ l.steps;
}
