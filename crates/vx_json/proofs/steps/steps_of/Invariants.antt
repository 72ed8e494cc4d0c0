use Rattle.std.proofs.Common.{◌≡◌, take, Some}
use Rattle.serde_json.specs.View.{items_view}
use Rattle.vx_json_rows.specs.Forms.{all_items}
use Rattle.vx_json.specs.Steps.{step_of}
use Rattle.vx_json.proofs.steps.steps_of.Given as goal

abbrev pub invariant-loop-item : goal.invariant-loop-item
invariant-loop-item l = all_items step_of (items_view (take l.item-index l.item-items)) ≡ Some l.steps.items
