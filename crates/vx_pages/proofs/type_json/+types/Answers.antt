use Rattle.std.proofs.Common.{ap, map, take, sym, ◌∙◌}
use Rattle.std.proofs.lemmas.List.{take_all}
use Rattle.serde_json.specs.View.{items_of}
use Rattle.vx_pages.specs.TypeJson.{field_json}
use Rattle.vx_pages.proofs.TypeLists.{json_fields}
use Rattle.vx_pages.proofs.type_json.+types.Goals as goal

pub fields_json-returns : goal.fields_json-returns
fields_json-returns t c =
    let list = c.list-name-items in let count = c.loop-name.name-index in
    let whole = ap (take count) (sym list.ensures)
    ∙ take_all count list.result.now c.loop-name-test.false ∙ list.ensures in
    ap items_of (c.loop-name.invariant ∙ ap (map field_json) whole) ∙ sym (json_fields c.args.fields.now)
