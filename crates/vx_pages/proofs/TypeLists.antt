-- The fields of struct types, as JSON.
use Rattle.std.proofs.Common.{◌≡◌, ℕ, List, [], ◌∷◌, map, refl, rules}
use Rattle.serde_json.specs.View.{items_of}
use Rattle.vx_rows.specs.declared.dtype.DType.{DType}
use Rattle.vx_rows.specs.declared.dtype.Fields.{Fields, the_lemmas}
use Rattle.vx_pages.specs.TypeJson.{field_pair, field_json, type_json, fields_json}

pub fields_layer : (fs : List (List ℕ × DType))
    → map field_pair (map (λ f. (f.0, type_json f.1)) fs) ≡ map field_json fs
fields_layer [] = refl
fields_layer (f ∷ fs) = λ i. field_json f ∷ fields_layer fs i

pub json_fields : (fs : Fields) → fields_json fs ≡ items_of (map field_json fs.list)
json_fields fs = search (rules, the_lemmas, fields_layer)
