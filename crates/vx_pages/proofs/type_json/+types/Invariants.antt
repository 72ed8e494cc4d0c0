use Rattle.std.proofs.Common.{◌≡◌, map, take}
use Rattle.serde_json.specs.View.{view}
use Rattle.vx_pages.specs.TypeJson.{field_json}
use Rattle.vx_pages.proofs.type_json.+types.Given as goal

abbrev pub invariant-fields_json-loop-name : goal.invariant-fields_json-loop-name
invariant-fields_json-loop-name l = map view l.pairs.items ≡ map field_json (take l.name-index l.fields.list)
