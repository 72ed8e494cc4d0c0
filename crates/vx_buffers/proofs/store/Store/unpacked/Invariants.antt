use Rattle.std.proofs.Common.{◌≡◌, take}
use Rattle.vx_buffers.specs.Stores.{rows_of}
use Rattle.vx_buffers.proofs.store.Store.unpacked.Given as goal

abbrev pub invariant-loop-i : goal.invariant-loop-i
invariant-loop-i l = l.rows.items ≡ take l.i (rows_of l.self)
