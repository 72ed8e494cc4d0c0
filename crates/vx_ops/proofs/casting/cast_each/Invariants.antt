use Rattle.std.proofs.Common.{◌≡◌, ◌≤◌, [], IsTrue, length, take}
use Rattle.vx_rows.specs.Fits.{rows_fit}
use Rattle.vx_ops.specs.Chunks.{HasGained, rows_in}
use Rattle.vx_ops.proofs.casting.cast_each.Given as goal

abbrev pub invariant-loop-chunk : goal.invariant-loop-chunk
invariant-loop-chunk g l = record {
  gained : HasGained l.dtype (rows_in (take l.chunk-index l.chunk-items)) [] l.cast.items;
  fits : IsTrue (rows_fit l.dtype (rows_in (take l.chunk-index l.chunk-items)));
  before : l.before ≡ length (rows_in (take l.chunk-index l.chunk-items));
  monotone : l.fn.steps ≤ l.steps;
}
