-- What an encoding is lent at a read.
use Rattle.std.specs.Prelude.{Bool, true, false, Option, Some, None}
use Rattle.std.specs.Borrow.{GName, MutBor}
use Rattle.vx_column.specs.declared.column.Column.{Column}
use Rattle.vx_probe.specs.declared.state.EncodingProbeState.{EncodingProbeState}
use Rattle.vx_probe.specs.declared.state.ProbeState.{ProbeState}
use Rattle.vx_probe.specs.declared.state.ProbeChildren.{ProbeChildren}

-- the column that is read
abbrev pub column_in : ProbeState → Column
column_in state = state.array

-- the column whose slots these are
abbrev pub children_of : ProbeChildren → Column
children_of children = children.array

abbrev pub kept_if : Bool → EncodingProbeState → Option EncodingProbeState
kept_if true state = Some state
kept_if false state = None

-- the state that is kept, if one is
abbrev pub kept_in : ProbeState → Option EncodingProbeState
kept_in state = kept_if state.is_kept state.state

-- the same read, with this state
abbrev pub with_kept : ProbeState → EncodingProbeState → ProbeState
with_kept state kept = record state { state = kept }

-- the place that a kept state goes back to, as proofs name it
abbrev pub home_of : ProbeState → GName
home_of state = state.home.ghost_name

-- the state behind a reference that may be there
abbrev pub lent_state : Option (MutBor EncodingProbeState) → Option EncodingProbeState
lent_state None = None
lent_state (Some state) = Some state.now
