-- What a probe reads.
use Rattle.std.specs.Prelude.{ℕ, Option, slice_get, ⊤}
use Rattle.vx_rows.specs.declared.value.Value.{Value}
use Rattle.vx_column.specs.Columns.{rows_of}
use Rattle.vx_column.specs.declared.column.Column.{Column}
use Rattle.vx_probe.specs.declared.array.KeptProbe.{KeptProbe}
use Rattle.vx_probe.specs.declared.array.ArrayProbe.{ArrayProbe}
use Rattle.vx_probe.specs.declared.array.ArrayProbe.TheVariants.{Once, Repeated}

-- the column of a kept probe that is lent
abbrev pub kept_column : KeptProbe → Column
kept_column kept = kept.probe.now

abbrev pub probed : ArrayProbe → Column
probed (Once column) = column.now
probed (Repeated kept) = kept_column kept

-- each row is read by itself
abbrev pub IsOnce : ArrayProbe → Type 0
IsOnce (Once column) = ⊤
IsOnce (Repeated kept) = ⊥

-- the answer to a read: the row, and none where there is no row
abbrev pub read_at : Column → ℕ → Option (Option Value)
read_at column index = slice_get (rows_of column) index
