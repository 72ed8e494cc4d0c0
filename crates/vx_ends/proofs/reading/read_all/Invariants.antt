use Rattle.std.proofs.Common.{◌-◌, ◌<◌, ◌≤◌, vec_len}
use Rattle.std.specs.Io.KnownBytes.{Consumes}
use Rattle.vx_ends.specs.Causes.{TellsAsBefore}
use Rattle.vx_ends.proofs.reading.read_all.Given as goal

abbrev pub invariant-turns : goal.invariant-turns
invariant-turns g l =
    Consumes (g.S.Source.left l.initial.source) (g.S.Source.left l.source) l.bytes.items
    × TellsAsBefore (g.S.Source.left l.initial.source) (g.S.Source.left l.source)
    × (g.S.Source.faults l.initial.source ≤ g.S.Source.faults l.source)
    × (vec_len l.bytes ≤ l.limit)
    × (0 < vec_len l.buf)

abbrev pub decreases-turns : goal.decreases-turns
decreases-turns g l = l.limit - vec_len l.bytes
