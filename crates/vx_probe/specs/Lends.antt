-- What a probe or a read ends as, once what was lent of it is let go.
use Rattle.std.specs.Prelude.{◌≡◌, [], Option, ⊤}
use Rattle.std.specs.Borrow.{LendsIf, follows, follows_so, Fml, MutBor, Array, RattleType}
use mathlib.Core.Option.{none}
use mir.Syntax.{named}
use Rattle.vx_probe.specs.declared.repeated.RepeatedArrayProbe.{RepeatedArrayProbe}
use Rattle.vx_probe.specs.declared.state.EncodingProbeState.{EncodingProbeState}
use Rattle.vx_probe.specs.declared.state.ProbeState.{ProbeState}
use Rattle.vx_probe.specs.contracts.repeated.RepeatedArrayProbe as probe_row
use Rattle.vx_probe.specs.contracts.state.EncodingProbeState as kept_row
use Rattle.vx_probe.specs.contracts.state.ProbeState as state_row
use Rattle.vx_probe.specs.States.{home_of, with_kept}

abbrev read_type : RattleType
read_type = state_row.the_row (record { mir = named 1; lft = [] })

-- the probe ends as it was
abbrev pub LeavesProbe : MutBor RepeatedArrayProbe → Fml
LeavesProbe probe = follows_so probe_row.the_row probe_row.the_row probe.ghost_name none (λ _ _. ⊤) (λ last. last ≡ probe.now)

-- whatever state is written, the probe ends with its column
abbrev pub LendsState : MutBor RepeatedArrayProbe → ProbeState → Fml
LendsState probe state = follows probe_row.the_row (Array kept_row.the_row 0) probe.ghost_name (home_of state) (λ _. probe.now)

-- the read ends with the state that is written last, and else as it was
abbrev pub LendsKept : MutBor ProbeState → Option (MutBor EncodingProbeState) → Fml
LendsKept state kept = LendsIf read_type kept_row.the_row state kept (with_kept state.now) state.now
