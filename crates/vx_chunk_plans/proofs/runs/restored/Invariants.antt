use Rattle.std.proofs.Common.{◌≡◌, ℕ, List, Some, take, length}
use Rattle.std.specs.List.{flat_map}
use Rattle.vx_chunk_plans.specs.Runs.{piece_rows, in_runs, OrdersWithin, part_row}
use Rattle.vx_chunk_plans.proofs.Cutting.{RunCounts}
use Rattle.vx_chunk_plans.proofs.runs.restored.Given as goal

-- the next place of each chunk, and the rows so far
abbrev pub invariant-loop-chunk : goal.invariant-loop-chunk
invariant-loop-chunk l = record {
  counts : RunCounts (length l.pieces) l.parts (take l.chunk-index l.parts) l.next.items;
  rows : (lens : List ℕ) → length lens ≡ length l.pieces → in_runs (piece_rows lens l.pieces) (Some l.order.items) ≡ flat_map (part_row lens) (take l.chunk-index l.parts);
  within : (lens : List ℕ) → length lens ≡ length l.pieces → OrdersWithin (length (piece_rows lens l.pieces)) (Some l.order.items);
}
