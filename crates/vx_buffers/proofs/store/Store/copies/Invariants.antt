use Rattle.std.proofs.Common.{◌≡◌}
use Rattle.std.specs.List.{slice_range}
use Rattle.vx_buffers.specs.Stores.{rows_of}
use Rattle.vx_buffers.proofs.store.Store.copies.Given as goal

abbrev pub invariant-loop-i : goal.invariant-loop-i
invariant-loop-i l = l.copies ≡ slice_range (rows_of l.self) l.fn.range.start l.i
