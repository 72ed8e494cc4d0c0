use Rattle.std.proofs.Common.{◌≡◌, take, Some}
use Rattle.serde_json.specs.View.{items_view}
use Rattle.vx_buffers.specs.Stores.{bool_rows}
use Rattle.vx_json_rows.specs.Forms.{all_items}
use Rattle.vx_json_rows.specs.Packed.{truth_row}
use Rattle.vx_json_rows.proofs.packed.truths_of.Given as goal

abbrev pub invariant-loop-item : goal.invariant-loop-item
invariant-loop-item l = all_items (truth_row l.kind.null_fits) (items_view (take l.item-index l.item-items)) ≡ Some (bool_rows l.truths)
