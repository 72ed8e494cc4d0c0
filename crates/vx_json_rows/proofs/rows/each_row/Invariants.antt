use Rattle.std.proofs.Common.{◌≡◌, take, Some}
use Rattle.serde_json.specs.View.{items_view}
use Rattle.vx_json_rows.specs.Forms.{all_items}
use Rattle.vx_json_rows.specs.Rows.{fitting_row}
use Rattle.vx_json_rows.proofs.rows.each_row.Given as goal

abbrev pub invariant-loop-item : goal.invariant-loop-item
invariant-loop-item l = all_items (fitting_row l.dtype) (items_view (take l.item-index l.item-items)) ≡ Some l.rows
