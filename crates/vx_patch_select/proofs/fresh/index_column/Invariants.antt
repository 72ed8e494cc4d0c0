use Rattle.std.proofs.Common.{◌≡◌, IsTrue, map, take}
use Rattle.vx_rows.specs.Fits.{rows_fit}
use Rattle.vx_patch_select.specs.Patched.{number_type, number_row}
use Rattle.vx_patch_select.proofs.fresh.index_column.Given as goal

abbrev pub invariant-loop-number : goal.invariant-loop-number
invariant-loop-number l = record {
  rows : l.rows.items ≡ map number_row (take l.number-index l.numbers);
  fit : IsTrue (rows_fit number_type l.rows.items);
}
