-- What an encoding keeps before the first read.
use Rattle.vx_column.specs.declared.column.Column.{Column}
use Rattle.vx_column.specs.declared.column.Column.TheOpen.{Column-F}
use Rattle.vx_column.specs.declared.column.Column.TheViews.{out-Column}
use Rattle.vx_probe.specs.declared.state.EncodingProbeState.{EncodingProbeState}
use Rattle.vx_probe.specs.declared.state.EncodingProbeState.TheVariants.{Flat, Chunked, Patched, Excepted, Interleave}

abbrev pub layer_state : {A : Type 0} → Column-F A → EncodingProbeState
layer_state (Column-F.Flat c) = Flat
layer_state (Column-F.Chunked chunked) = Chunked
layer_state (Column-F.Patched patched) = Patched
layer_state (Column-F.Excepted excepted) = Excepted
layer_state (Column-F.Interleave interleave) = Interleave

-- that of a column's encoding
abbrev pub state_of : Column → EncodingProbeState
state_of column = layer_state (out-Column column)
