-- Sets of rows, by the keys that hold them.
use Rattle.std.proofs.Common.{◌≡◌, ◌∙◌, ap, sym, refl, Bool, ◌&&◌, ◌||◌, List, [], ◌∷◌, map, Option, Some, None}
use Rattle.std.specs.Option.{is_some}
use Rattle.std.specs.declared.cmp.Ordering.TheVariants.{Equal}
use Rattle.std.specs.List.{list_any}
use Rattle.std.specs.Ordering.{is_eq}
use Rattle.vx_rows.specs.declared.value.Value.{Value}
use Rattle.vx_rows.specs.Order.{row_cmp}
use Rattle.vx_scalars.proofs.Total.{row_cmp_total}
use Rattle.vx_haystack.specs.Keys.{has_row, values_of}
use Rattle.vx_haystack.proofs.ByteSets.{any_map}

any_values : (v : Value) (rows : List (Option Value)) → list_any (λ e. is_eq (row_cmp e (Some v))) (values_of rows) ≡ list_any (λ e. is_eq (row_cmp e (Some v))) rows
any_values v [] = refl
any_values v (None ∷ rows) = any_values v rows
any_values v (Some u ∷ rows) = ap (λ b. is_eq (row_cmp (Some u) (Some v)) || b) (any_values v rows)

-- a null is in no set, so nulls may be left out
same_values : (rows : List (Option Value)) (row : Option Value) → has_row (values_of rows) row ≡ has_row rows row
same_values rows None = refl
same_values rows (Some v) = any_values v rows

-- keys that are sorted hold the rows that they held before
pub sorted_rows : {X : Type 0} (row_of : X → Option Value) (sorted keys : List X) (rows : List (Option Value)) →
    ((p : X → Bool) → ((a b : X) → row_cmp (row_of a) (row_of b) ≡ Equal → p a ≡ p b) → list_any p sorted ≡ list_any p keys) → map row_of keys ≡ values_of rows →
    (row : Option Value) → has_row (map row_of sorted) row ≡ has_row rows row
sorted_rows {X} row_of sorted keys rows kept held row =
    let q : Option Value → Bool = λ e. is_eq (row_cmp e row) in
    let p : X → Bool = λ k. q (row_of k) in
    ap (λ b. is_some row && b)
    (any_map row_of q sorted ∙ kept p (λ a b e. ap is_eq (row_cmp_total.congr (row_of a) (row_of b) row e)) ∙ sym (any_map row_of q keys) ∙ ap (list_any q) held)
    ∙ same_values rows row
