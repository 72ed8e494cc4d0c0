-- Rows within rows, as JSON.
use Rattle.std.proofs.Common.{◌≡◌, List, [], ◌∷◌, Option, Some, None, option_map, map, refl, rules}
use Rattle.serde_json.specs.Data.{array}
use Rattle.serde_json.specs.View.{items_of}
use Rattle.vx_rows.specs.declared.value.Value.{Value, List as Listed, Struct, the_lemmas}
use Rattle.vx_pages.specs.RowJson.{or_null, value_json, row_json}

row_layer : (r : Option Value) → or_null (option_map value_json r) ≡ row_json r
row_layer None = refl
row_layer (Some v) = refl

pub rows_layer : (rs : List (Option Value)) → map or_null (map (option_map value_json) rs) ≡ map row_json rs
rows_layer [] = refl
rows_layer (r ∷ rs) = λ i. row_layer r i ∷ rows_layer rs i

pub json_list : (rs : List (Option Value)) → value_json (Listed rs) ≡ array (items_of (map row_json rs))
json_list rs = search (rules, the_lemmas, rows_layer)

pub json_struct : (rs : List (Option Value)) → value_json (Struct rs) ≡ array (items_of (map row_json rs))
json_struct rs = search (rules, the_lemmas, rows_layer)
