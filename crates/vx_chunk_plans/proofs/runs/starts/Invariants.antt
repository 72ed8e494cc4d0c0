use Rattle.std.proofs.Common.{◌≡◌, ◌<◌, ℕ, map, take, length, get_or}
use Rattle.vx_chunks.specs.Bounds.{total}
use Rattle.vx_chunk_plans.specs.Runs.{run_total}
use Rattle.vx_chunk_plans.proofs.runs.starts.Given as goal

-- where the pieces so far begin, and where the next one does
abbrev pub invariant-loop-piece : goal.invariant-loop-piece
invariant-loop-piece l = record {
  long : length l.starts.items ≡ l.piece-index;
  each : (k : ℕ) → k < l.piece-index → get_or l.starts.items k 0 ≡ total (take k (map run_total l.pieces));
  sum : l.sum ≡ total (take l.piece-index (map run_total l.pieces));
}
