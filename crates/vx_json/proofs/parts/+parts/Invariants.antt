use Rattle.std.proofs.Common.{◌≡◌, ◌+◌, ◌*◌, Some, take}
use Rattle.serde_json.specs.Data.{depth}
use Rattle.serde_json.specs.View.{view, items_view}
use Rattle.vx_json_rows.specs.Forms.{all_items}
use Rattle.vx_json.specs.Parts.{part_of}
use Rattle.vx_json.proofs.parts.+parts.Given as goal

abbrev pub decreases-part_of : goal.decreases-part_of
decreases-part_of l = 3 * depth (view l.value.now) + 2

abbrev pub decreases-chunked_of : goal.decreases-chunked_of
decreases-chunked_of l = 3 * depth (view l.value.now) + 1

abbrev pub decreases-lanes_of : goal.decreases-lanes_of
decreases-lanes_of l = 3 * depth (view l.value.now) + 1

abbrev pub decreases-excepted_of : goal.decreases-excepted_of
decreases-excepted_of l = 3 * depth (view l.value.now) + 1

abbrev pub decreases-interleaved_of : goal.decreases-interleaved_of
decreases-interleaved_of l = 3 * depth (view l.value.now) + 1

abbrev pub decreases-part_in : goal.decreases-part_in
decreases-part_in l = 3 * depth (view l.value.now)

abbrev pub decreases-parts_in : goal.decreases-parts_in
decreases-parts_in l = 3 * depth (view l.value.now)

abbrev pub decreases-parts_of : goal.decreases-parts_of
decreases-parts_of l = 3 * depth (view l.value.now)

abbrev pub invariant-parts_of-loop-item : goal.invariant-parts_of-loop-item
invariant-parts_of-loop-item l =
    all_items part_of (items_view (take l.item-index l.item-items)) ≡ Some l.parts.items
