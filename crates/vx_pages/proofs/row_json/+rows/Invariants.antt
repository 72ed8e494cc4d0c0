use Rattle.std.proofs.Common.{◌≡◌, map, take}
use Rattle.serde_json.specs.View.{view}
use Rattle.vx_pages.specs.RowJson.{row_json}
use Rattle.vx_pages.proofs.row_json.+rows.Given as goal

abbrev pub invariant-rows_json-loop-row : goal.invariant-rows_json-loop-row
invariant-rows_json-loop-row l = map view l.values.items ≡ map row_json (take l.row-index l.rows)
