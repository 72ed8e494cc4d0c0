use Rattle.std.proofs.Common.{◌≡◌, pos, take, Some}
use Rattle.serde_json.specs.View.{items_view}
use Rattle.vx_buffers.specs.Stores.{long_rows}
use Rattle.vx_json_rows.specs.Forms.{all_items}
use Rattle.vx_json_rows.specs.Packed.{ranged_row}
use Rattle.vx_json_rows.proofs.integers.longs_of.Given as goal

abbrev pub invariant-loop-item : goal.invariant-loop-item
invariant-loop-item l = all_items (ranged_row (pos 0, pos 18446744073709551615) l.kind.null_fits) (items_view (take l.item-index l.item-items)) ≡ Some (long_rows l.numbers)
