use Rattle.std.proofs.Common.{◌≡◌, take, Some}
use Rattle.serde_json.specs.View.{items_view}
use Rattle.vx_buffers.specs.Stores.{binary_rows}
use Rattle.vx_json_rows.specs.Forms.{all_items}
use Rattle.vx_json_rows.specs.Packed.{bytes_row}
use Rattle.vx_json_rows.proofs.written.binaries_of.Given as goal

abbrev pub invariant-loop-item : goal.invariant-loop-item
invariant-loop-item l = all_items (bytes_row l.kind.null_fits) (items_view (take l.item-index l.item-items)) ≡ Some (binary_rows l.binaries)
