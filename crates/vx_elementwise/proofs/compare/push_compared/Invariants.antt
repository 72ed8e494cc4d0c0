use Rattle.std.proofs.Common.{◌≡◌, ◌++◌, take}
use Rattle.vx_buffers.specs.Stores.{bool_rows}
use Rattle.vx_scalars.specs.Elementwise.{compared}
use Rattle.vx_elementwise.proofs.compare.push_compared.Given as goal

abbrev pub invariant-loop-i : goal.invariant-loop-i
invariant-loop-i l = bool_rows l.truths ≡ bool_rows l.fn.truths ++ compared l.op l.value (take l.i l.rows)
