use Rattle.std.proofs.Common.{◌≡◌, map, take}
use Rattle.serde_json.specs.View.{view}
use Rattle.vx_pages.specs.RowJson.{row_json}
use Rattle.vx_pages.proofs.row_json.buffer_json.Given as goal

abbrev pub invariant-loop-i : goal.invariant-loop-i
invariant-loop-i l = map view l.values.items ≡ map row_json (take l.i l.rows)
