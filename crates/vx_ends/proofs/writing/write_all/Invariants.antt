use Rattle.std.proofs.Common.{◌-◌, ◌≤◌, take, length}
use Rattle.std.specs.Io.KnownBytes.{Appends}
use Rattle.vx_ends.specs.Causes.{TellsAsBefore}
use Rattle.vx_ends.proofs.writing.write_all.Given as goal

abbrev pub invariant-turns : goal.invariant-turns
invariant-turns g l =
    Appends (g.K.Sink.held l.initial.sink) (g.K.Sink.held l.sink) (take l.at l.text)
    × TellsAsBefore (g.K.Sink.held l.initial.sink) (g.K.Sink.held l.sink)
    × (g.K.Sink.faults l.initial.sink ≤ g.K.Sink.faults l.sink)
    × (l.at ≤ length l.text)

abbrev pub decreases-turns : goal.decreases-turns
decreases-turns g l = length l.text - l.at
