use Rattle.std.proofs.Common.{◌≡◌, take, Some}
use Rattle.serde_json.specs.View.{items_view}
use Rattle.vx_json_rows.specs.Forms.{all_items}
use Rattle.vx_json_rows.proofs.forms.items_of.Given as goal

abbrev pub invariant-loop-item : goal.invariant-loop-item
invariant-loop-item g l = all_items g.T.Item.form (items_view (take l.item-index l.item-items)) ≡ Some l.items.items
