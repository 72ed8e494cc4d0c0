use Rattle.std.proofs.Common.{ap, map, sym, ◌∙◌}
use Rattle.serde_json.proofs.Views.{view-Array}
use Rattle.serde_json.specs.Data.{array}
use Rattle.serde_json.specs.View.{items_of}
use Rattle.vx_pages.specs.RowJson.{row_json, value_json}
use Rattle.vx_pages.proofs.RowLists.{json_list, json_struct}
use Rattle.vx_pages.proofs.row_json.+rows.Goals as goal

pub value_json-returns-in_ok-rows_json-in-List : goal.value_json-returns-in_ok-rows_json-in-List
value_json-returns-in_ok-rows_json-in-List t c =
    view-Array _ ∙ ap (λ ds. array (items_of ds)) (c.in_ok-rows_json-in-List.ensures
    ∙ ap (map row_json) c.as_slice-in-List.ensures) ∙ sym (ap value_json c.in-List.is
    ∙ json_list c.in-List.rows)

pub value_json-returns-in_ok-rows_json-in-Struct : goal.value_json-returns-in_ok-rows_json-in-Struct
value_json-returns-in_ok-rows_json-in-Struct t c =
    view-Array _ ∙ ap (λ ds. array (items_of ds)) (c.in_ok-rows_json-in-Struct.ensures
    ∙ ap (map row_json) c.as_slice-in-Struct.ensures) ∙ sym (ap value_json c.in-Struct.is
    ∙ json_struct c.in-Struct.rows)
