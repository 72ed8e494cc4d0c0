use Rattle.std.proofs.Common.{◌≡◌, ℕ, List, Some, take, length}
use Rattle.vx_chunk_plans.specs.Deals.{present}
use Rattle.vx_chunk_plans.specs.Takes.{bucket_rows, in_order, rows_of}
use Rattle.vx_chunk_plans.proofs.Taking.{TakeCounts}
use Rattle.vx_chunk_plans.proofs.take.restored.Given as goal

-- the next place of each chunk, and the rows so far
abbrev pub invariant-loop-spot : goal.invariant-loop-spot
invariant-loop-spot l = record {
  counts : TakeCounts (length l.buckets) (present l.spots) (present (take l.spot-index l.spots)) l.next.items;
  rows : (lens : List ℕ) → length lens ≡ length l.buckets → in_order (bucket_rows lens l.buckets) (Some l.order.items) ≡ rows_of lens (take l.spot-index l.spots);
}
