use Rattle.std.proofs.Common.{◌≡◌, ◌<◌, ℕ, map, take, length, get_or}
use Rattle.vx_chunks.specs.Bounds.{total}
use Rattle.vx_chunk_plans.proofs.take.starts.Given as goal

-- where the buckets so far begin, and where the next one does
abbrev pub invariant-loop-bucket : goal.invariant-loop-bucket
invariant-loop-bucket l = record {
  long : length l.starts.items ≡ l.bucket-index;
  each : (k : ℕ) → k < l.bucket-index → get_or l.starts.items k 0 ≡ total (take k (map length l.buckets));
  sum : l.sum ≡ total (take l.bucket-index (map length l.buckets));
}
