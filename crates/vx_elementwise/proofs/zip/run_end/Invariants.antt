use Rattle.std.proofs.Common.{◌≡◌, ◌-◌, false, get_or, replicate}
use Rattle.std.specs.List.{slice_range}
use Rattle.vx_elementwise.proofs.zip.run_end.Given as goal

abbrev pub invariant-loop-i : goal.invariant-loop-i
invariant-loop-i l = slice_range l.choice l.start l.i ≡ replicate (l.i - l.start) (get_or l.choice l.start false)
