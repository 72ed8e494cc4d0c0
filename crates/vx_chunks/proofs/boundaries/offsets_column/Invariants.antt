use Rattle.std.proofs.Common.{◌≡◌, IsTrue, map, take}
use Rattle.vx_rows.specs.Fits.{rows_fit}
use Rattle.vx_chunks.specs.Offsets.{offset_type, offset_row}
use Rattle.vx_chunks.proofs.boundaries.offsets_column.Given as goal

abbrev pub invariant-loop-number : goal.invariant-loop-number
invariant-loop-number l = record {
  rows : l.rows.items ≡ map offset_row (take l.number-index l.numbers);
  fit : IsTrue (rows_fit offset_type l.rows.items);
}
