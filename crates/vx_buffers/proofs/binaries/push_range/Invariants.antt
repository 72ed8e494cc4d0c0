use Rattle.std.proofs.Common.{◌≡◌, ◌++◌}
use Rattle.std.specs.List.{slice_range}
use Rattle.vx_buffers.proofs.binaries.push_range.Given as goal

abbrev pub invariant-loop-i : goal.invariant-loop-i
invariant-loop-i l = l.into ≡ l.fn.into ++ slice_range l.other l.fn.range.start l.i
