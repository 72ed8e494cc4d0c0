use Rattle.std.proofs.Common.{◌≡◌, ◌^◌, take, Some}
use Rattle.serde_json.specs.View.{items_view}
use Rattle.vx_buffers.specs.Stores.{decimal_rows}
use Rattle.vx_json_rows.specs.Forms.{all_items}
use Rattle.vx_json_rows.specs.Packed.{decimal_row}
use Rattle.vx_json_rows.proofs.written.decimals_of.Given as goal

abbrev pub invariant-loop-item : goal.invariant-loop-item
invariant-loop-item l = all_items (decimal_row (10 ^ l.digits.0) l.null_fits) (items_view (take l.item-index l.item-items)) ≡ Some (decimal_rows l.unscaled)
