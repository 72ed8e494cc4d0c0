use Rattle.std.proofs.Common.{◌≡◌, ◌≤◌, map, take}
use Rattle.std.specs.List.{All}
use Rattle.vx_column.specs.Columns.{IsSound, IsOf, rows_of, chunks_of}
use Rattle.vx_pairs.proofs.push.pushed_chunks.Given as goal

abbrev pub invariant-loop-chunk : goal.invariant-loop-chunk
invariant-loop-chunk g l = record {
  rows : map rows_of l.chunks.items ≡ map (λ chunk. map (λ row. g.F.RowFn.value_of l.f row l.siblings) (rows_of chunk)) (take l.chunk-index (chunks_of l.column));
  sound : All IsSound l.chunks.items;
  types : All (IsOf l.out) l.chunks.items;
  monotone : l.initial.steps ≤ l.steps;
}
